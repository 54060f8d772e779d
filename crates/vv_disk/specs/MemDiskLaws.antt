-- Why a disk in memory keeps the laws of a disk.
use Rattle.std.specs.Prelude.{◌≡◌, ℕ, ◌≤◌, List, [], ◌∷◌, ◌++◌, length, fold, replicate, Option, Some, unwrap_or, refl}
use Rattle.std.proofs.Common.{ap, ◌∙◌, sym, subst}
use Rattle.std.proofs.Math.Nat.{le_refl, le_trans}
use Rattle.std.proofs.lemmas.List.{take_all, length-replicate}
use Rattle.vv_disk.specs.declared.span.Span.{Span}
use Rattle.vv_disk.specs.Images.{overwritten, DiffersWithin}
use Rattle.vv_disk.specs.ImageLaws.{length-overwritten, overwritten_within, DiffersWithin-same}
use Rattle.vv_disk.specs.MemDisk.{Done, Wrote, Synced, DiskState, step, after, IsTorn, IsLeft, LeftSince, filled}

-- what each step keeps holds after all of them
pub steps_keep : (P : DiskState → Type 0) → ((state : DiskState) (next : Done) → P state → P (step state next)) → (state : DiskState) (done : List Done) → P state → P (fold step state done)
steps_keep P keeps state [] p = p
steps_keep P keeps state (next ∷ done) p = steps_keep P keeps (step state next) done (keeps state next p)

-- one range more
pub torn_more : (old : List ℕ) (spans : List Span) (span : Span) (torn image : List ℕ) → IsTorn old spans torn → DiffersWithin span.at span.len torn image → IsTorn old (spans ++ span ∷ []) image
torn_more old [] span torn image is within = (image, subst (λ (l : List ℕ). DiffersWithin span.at span.len l image) is within, refl)
torn_more old (s ∷ spans) span torn image is within = (is.0, is.1, torn_more is.0 spans span torn image is.2 within)

pub length-torn : (old : List ℕ) (spans : List Span) (image : List ℕ) → IsTorn old spans image → length image ≡ length old
length-torn old [] image is = ap length is
length-torn old (span ∷ spans) image is = length-torn is.0 spans image is.2 ∙ is.1.size

-- what stood before is one of the outcomes
pub torn_none : (old : List ℕ) (spans : List Span) → IsTorn old spans old
torn_none old [] = refl
torn_none old (span ∷ spans) = (old, DiffersWithin-same span.at span.len old, torn_none old spans)

pub torn_filled : (byte : ℕ) (old : List ℕ) (spans : List Span) → IsTorn old spans (filled byte old spans)
torn_filled byte old [] = refl
torn_filled byte old (span ∷ spans) =
    let bytes = replicate span.len byte in (
      overwritten old span.at bytes,
      subst (λ (n : ℕ). DiffersWithin span.at n old (overwritten old span.at bytes)) (length-replicate span.len byte) (overwritten_within old span.at bytes),
      torn_filled byte (overwritten old span.at bytes) spans,
    )

-- the content and what is synced keep their length
pub record IsSized (size : ℕ) (state : DiskState) : Type 0 where
  pub content : length state.content ≡ size
  pub synced : length state.synced ≡ size

sized_step : (size : ℕ) (state : DiskState) (next : Done) → IsSized size state → IsSized size (step state next)
sized_step size state (Wrote at bytes) is = record { content = length-overwritten state.content at bytes ∙ is.content; synced = is.synced }
sized_step size state Synced is = record { content = is.content; synced = is.content }

pub after_sized : (first : List ℕ) (done : List Done) → IsSized (length first) (after first done)
after_sized first done = steps_keep (IsSized (length first)) (sized_step (length first)) (record { synced = first; content = first; pending = [] }) done (record { content = refl; synced = refl })

pub content_sized : (first : List ℕ) (done : List Done) (c : List ℕ) → Some (after first done).content ≡ Some c → length c ≡ length first
content_sized first done c told = ap (λ (o : Option (List ℕ)). length (unwrap_or o first)) (sym told) ∙ (after_sized first done).content

-- the content is one of the images
abbrev ContentLeft : DiskState → Type 0
ContentLeft state = IsLeft state state.content

content_step : (state : DiskState) (next : Done) → ContentLeft state → ContentLeft (step state next)
content_step state (Wrote at bytes) is = torn_more state.synced state.pending (record { at = at; len = length bytes }) state.content (overwritten state.content at bytes) is (overwritten_within state.content at bytes)
content_step state Synced is = refl

pub content_left : (first : List ℕ) (done : List Done) → IsLeft (after first done) (after first done).content
content_left first done = steps_keep ContentLeft content_step (record { synced = first; content = first; pending = [] }) done refl

pub left_sized : (first : List ℕ) (done : List Done) (image : List ℕ) → IsLeft (after first done) image → length image ≡ length first
left_sized first done image is = length-torn (after first done).synced (after first done).pending image is ∙ (after_sized first done).synced

pub since_now : (first : List ℕ) (done : List Done) (t : ℕ) (image : List ℕ) → t ≤ length done → IsLeft (after first done) image → LeftSince first done t image
since_now first done t image le is =
    (length done, le, le_refl (length done), subst (λ (l : List Done). IsLeft (after first l) image) (sym (take_all (length done) done (le_refl (length done)))) is)

pub now_since : (first : List ℕ) (done : List Done) (image : List ℕ) → LeftSince first done (length done) image → IsLeft (after first done) image
now_since first done image left = subst (λ (l : List Done). IsLeft (after first l) image) (take_all left.0 done left.1) left.3

pub since_later : (first : List ℕ) (done : List Done) (t u : ℕ) (image : List ℕ) → t ≤ u → LeftSince first done u image → LeftSince first done t image
since_later first done t u image le left = (left.0, le_trans le left.1, left.2, left.3)
