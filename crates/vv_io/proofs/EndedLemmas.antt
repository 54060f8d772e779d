-- The lines of a front of bytes that end by LF in it: for callers that stop within a script.
use Rattle.std.proofs.Common.{◌≡◌, ℕ, suc, ◌+◌, ◌≤◌, ◌++◌, List, [], ◌∷◌, Bool, true, false, not, cond, refl, sym, ap, ◌∙◌, length, arith, append_assoc, length-append}
use Rattle.std.specs.Prelude.{Option, Some, None, nat_lt, ◌==◌, ◌||◌}
use Rattle.vv_io.specs.Lines.{is_blank, has_more, given_for, lines_from, ended_from}
use Rattle.vv_io.proofs.LineLemmas.{given_none}

-- Of two equal joined lists one front leads the other, if less is behind that.
pub lead : {A : Type 0} (front behind ended last : List A) → front ++ behind ≡ ended ++ last → length last ≤ length behind
    → (more : List A) × (ended ≡ front ++ more)
lead [] behind ended last same less = (ended, refl)
lead (x ∷ front) behind [] last same less = absurd (omega (arith, ap length same, length-append front behind))
lead (x ∷ front) behind (y ∷ ended) last same less =
    let more = lead front behind ended last (cc) less in
    (more.0, let tail : ended ≡ front ++ more.0 = more.1 in cc)

-- Equal joined lists with as much behind have the same front.
pub same_front : {A : Type 0} (front behind ended last : List A) → front ++ behind ≡ ended ++ last → length last ≡ length behind → front ≡ ended
same_front [] behind [] last same less = refl
same_front [] behind (y ∷ ended) last same less = absurd (omega (arith, ap length same, length-append ended last))
same_front (x ∷ front) behind [] last same less = absurd (omega (arith, ap length same, length-append front behind))
same_front (x ∷ front) behind (y ∷ ended) last same less =
    let tail : front ≡ ended = same_front front behind ended last (cc) less in cc

-- The lines that end by LF in a front come first, and behind them goes on the line that is begun there.
behind_step : (limit c : ℕ) (begun bytes : List ℕ) (b : Bool)
    → (tail : List ℕ) × ((rest : List ℕ) → lines_from limit [] (bytes ++ rest) ≡ ended_from limit [] bytes ++ lines_from limit tail rest)
    → (tail : List ℕ) × ((rest : List ℕ) → lines_from limit (begun ++ c ∷ []) (bytes ++ rest) ≡ ended_from limit (begun ++ c ∷ []) bytes ++ lines_from limit tail rest)
    → (tail : List ℕ) × ((rest : List ℕ)
    → cond b (given_for limit begun ++ lines_from limit [] (bytes ++ rest)) (lines_from limit (begun ++ c ∷ []) (bytes ++ rest))
    ≡ cond b (given_for limit begun ++ ended_from limit [] bytes) (ended_from limit (begun ++ c ∷ []) bytes) ++ lines_from limit tail rest)
behind_step limit c begun bytes true anew on = (
  anew.0,
  λ rest. ap (λ (lines : List (Option (List ℕ))). given_for limit begun ++ lines) (anew.1 rest)
      ∙ sym (append_assoc (given_for limit begun) (ended_from limit [] bytes) (lines_from limit anew.0 rest)),
)
behind_step limit c begun bytes false anew on = on

pub ended_then : (limit : ℕ) (begun bytes : List ℕ)
    → (tail : List ℕ) × ((rest : List ℕ) → lines_from limit begun (bytes ++ rest) ≡ ended_from limit begun bytes ++ lines_from limit tail rest)
ended_then limit begun [] = (begun, λ rest. refl)
ended_then limit begun (c ∷ bytes) =
    behind_step limit c begun bytes (c == 10) (ended_then limit [] bytes) (ended_then limit (begun ++ c ∷ []) bytes)

-- A letter at the end makes one line more, and no more than one.
more_than_blanks : (begun : List ℕ) → has_more (begun ++ 97 ∷ []) ≡ true
more_than_blanks [] = refl
more_than_blanks (c ∷ begun) = either_true (not (is_blank c)) (has_more (begun ++ 97 ∷ [])) (more_than_blanks begun)
  where
    either_true : (a b : Bool) → b ≡ true → (a || b) ≡ true
    either_true true b is = refl
    either_true false b is = is

one_given : (line : List ℕ) (long text : Bool) → text ≡ true
    → length (cond long (None ∷ []) (cond text (Some line ∷ []) [])) ≡ 1
one_given line true text is = refl
one_given line false true is = refl
one_given line false false is = absurd (cc)

given_one : (limit : ℕ) (begun : List ℕ) → length (given_for limit (begun ++ 97 ∷ [])) ≡ 1
unfolding given_for
given_one limit begun =
    one_given (begun ++ 97 ∷ []) (nat_lt limit (length (begun ++ 97 ∷ []))) (has_more (begun ++ 97 ∷ [])) (more_than_blanks begun)

pub alone : (limit : ℕ) (begun : List ℕ) → length (lines_from limit begun (97 ∷ [])) ≡ 1
alone limit begun = given_one limit begun

pub some_behind : (limit : ℕ) (begun bytes : List ℕ) → 1 ≤ length (lines_from limit begun (bytes ++ 97 ∷ []))
some_behind limit begun bytes =
    let ended = ended_then limit begun bytes in
    omega (arith, ap length (ended.1 (97 ∷ [])), length-append (ended_from limit begun bytes) (lines_from limit ended.0 (97 ∷ [])), alone limit ended.0)

-- What was given is all that ends by LF, where no byte waits.
pub all_ended : (limit other : ℕ) (begun bytes now : List ℕ) (given : List (Option (List ℕ)))
    → ((rest : List ℕ) → lines_from limit begun (bytes ++ rest) ≡ given ++ lines_from other now rest) → given ≡ ended_from limit begun bytes
all_ended limit other begun bytes now given lines =
    let ended = ended_then limit begun bytes in
    same_front given (lines_from other now (97 ∷ [])) (ended_from limit begun bytes) (lines_from limit ended.0 (97 ∷ []))
    (sym (lines (97 ∷ [])) ∙ ended.1 (97 ∷ [])) (alone limit ended.0 ∙ sym (alone other now))

-- What was given leads all that ends by LF, also in bytes that come behind.
pub leads_ended : (limit other : ℕ) (begun bytes now waiting : List ℕ) (given : List (Option (List ℕ)))
    → ((rest : List ℕ) → lines_from limit begun (bytes ++ rest) ≡ given ++ lines_from other now (waiting ++ rest)) → (more : List ℕ)
    → (unserved : List (Option (List ℕ))) × (ended_from limit begun (bytes ++ more) ≡ given ++ unserved)
leads_ended limit other begun bytes now waiting given lines more =
    let ended = ended_then limit begun (bytes ++ more) in
    let joined : given ++ lines_from other now ((waiting ++ more) ++ 97 ∷ []) ≡ ended_from limit begun (bytes ++ more) ++ lines_from limit ended.0 (97 ∷ []) =
    ap (λ (w : List ℕ). given ++ lines_from other now w) (append_assoc waiting more (97 ∷ []))
    ∙ sym (lines (more ++ 97 ∷ [])) ∙ ap (lines_from limit begun) (sym (append_assoc bytes more (97 ∷ []))) ∙ ended.1 (97 ∷ []) in
    lead given (lines_from other now ((waiting ++ more) ++ 97 ∷ [])) (ended_from limit begun (bytes ++ more)) (lines_from limit ended.0 (97 ∷ [])) joined
    (omega (arith, alone limit ended.0, some_behind other now (waiting ++ more)))

-- A byte more makes at most one line more.
given_few : (limit : ℕ) (line : List ℕ) → length (given_for limit line) ≤ 1
unfolding given_for
given_few limit line = few (nat_lt limit (length line)) (has_more line)
  where
    few : (long text : Bool) → length (cond long (None ∷ []) (cond text (Some line ∷ []) [])) ≤ 1
    few true text = omega arith
    few false true = omega arith
    few false false = omega arith

grow_step : (limit c : ℕ) (begun bytes : List ℕ) (b : Bool)
    → length (lines_from limit [] bytes) ≤ length (given_for limit []) + length bytes
    → length (lines_from limit (begun ++ c ∷ []) bytes) ≤ length (given_for limit (begun ++ c ∷ [])) + length bytes
    → length (cond b (given_for limit begun ++ lines_from limit [] bytes) (lines_from limit (begun ++ c ∷ []) bytes)) ≤ length (given_for limit begun) + suc (length bytes)
grow_step limit c begun bytes true anew on =
    omega (arith, length-append (given_for limit begun) (lines_from limit [] bytes), ap length (given_none limit))
grow_step limit c begun bytes false anew on = omega (arith, given_few limit (begun ++ c ∷ []))

grow_first : (limit : ℕ) (begun bytes : List ℕ) → length (lines_from limit begun bytes) ≤ length (given_for limit begun) + length bytes
grow_first limit begun [] = omega arith
grow_first limit begun (c ∷ bytes) =
    grow_step limit c begun bytes (c == 10) (grow_first limit [] bytes) (grow_first limit (begun ++ c ∷ []) bytes)

more_step : (limit c : ℕ) (begun bytes more : List ℕ) (b : Bool)
    → length (lines_from limit [] (bytes ++ more)) ≤ length (lines_from limit [] bytes) + length more
    → length (lines_from limit (begun ++ c ∷ []) (bytes ++ more)) ≤ length (lines_from limit (begun ++ c ∷ []) bytes) + length more
    → length (cond b (given_for limit begun ++ lines_from limit [] (bytes ++ more)) (lines_from limit (begun ++ c ∷ []) (bytes ++ more)))
    ≤ length (cond b (given_for limit begun ++ lines_from limit [] bytes) (lines_from limit (begun ++ c ∷ []) bytes)) + length more
more_step limit c begun bytes more true anew on =
    omega (arith, length-append (given_for limit begun) (lines_from limit [] (bytes ++ more)), length-append (given_for limit begun) (lines_from limit [] bytes))
more_step limit c begun bytes more false anew on = on

pub lines_grow : (limit : ℕ) (begun bytes more : List ℕ)
    → length (lines_from limit begun (bytes ++ more)) ≤ length (lines_from limit begun bytes) + length more
lines_grow limit begun [] more = grow_first limit begun more
lines_grow limit begun (c ∷ bytes) more =
    more_step limit c begun bytes more (c == 10) (lines_grow limit [] bytes more) (lines_grow limit (begun ++ c ∷ []) bytes more)
