-- Tests that are all to hold, and lists joined one behind the other.
use Rattle.std.proofs.Common.{◌≡◌, ◌&&◌, ◌++◌, Bool, List, [], ◌∷◌, ap, ◌∙◌}
use Rattle.std.specs.List.{list_all}
use Rattle.std.proofs.Math.Bool.{and_assoc, and-true}

pub two_joined : {A : Type 0} (xs ys one us vs : List A) → one ≡ xs ++ ys → xs ≡ us → ys ≡ vs → one ≡ us ++ vs
two_joined xs ys one us vs a e f = a ∙ ap (λ l. l ++ ys) e ∙ ap (λ l. us ++ l) f

pub three_joined : {A : Type 0} (xs ys zs one two us vs ws : List A) → one ≡ xs ++ ys → two ≡ one ++ zs → xs ≡ us → ys ≡ vs → zs ≡ ws → two ≡ us ++ vs ++ ws
three_joined xs ys zs one two us vs ws a b e f g = two_joined one zs two (us ++ vs) ws b (two_joined xs ys one us vs a e f) g

-- Each test as what it tells.
pub conj_2 : (a b : Bool) {A B : Bool} → a ≡ A → b ≡ B → list_all (λ x. x) (a ∷ b ∷ []) ≡ (A && B)
conj_2 a b {A} {B} p q = rw (p, q) (ap (λ x. A && x) (and-true B))

pub conj_3 : (a b c : Bool) {A B C : Bool} → a ≡ A → b ≡ B → c ≡ C → list_all (λ x. x) (a ∷ b ∷ c ∷ []) ≡ (A && B && C)
conj_3 a b c {A} {B} {C} p0 p1 p2 =
    ap (λ x. x && list_all (λ x. x) (b ∷ c ∷ [])) p0 ∙ ap (λ x. A && x) (conj_2 b c p1 p2) ∙ simp and_assoc

pub conj_4 : (a b c d : Bool) {A B C D : Bool} → a ≡ A → b ≡ B → c ≡ C → d ≡ D → list_all (λ x. x) (a ∷ b ∷ c ∷ d ∷ []) ≡ (A && B && C && D)
conj_4 a b c d {A} {B} {C} {D} p0 p1 p2 p3 =
    ap (λ x. x && list_all (λ x. x) (b ∷ c ∷ d ∷ [])) p0 ∙ ap (λ x. A && x) (conj_3 b c d p1 p2 p3) ∙ simp and_assoc

pub conj_5 : (a b c d e : Bool) {A B C D E : Bool} → a ≡ A → b ≡ B → c ≡ C → d ≡ D → e ≡ E → list_all (λ x. x) (a ∷ b ∷ c ∷ d ∷ e ∷ []) ≡ (A && B && C && D && E)
conj_5 a b c d e {A} {B} {C} {D} {E} p0 p1 p2 p3 p4 =
    ap (λ x. x && list_all (λ x. x) (b ∷ c ∷ d ∷ e ∷ [])) p0 ∙ ap (λ x. A && x) (conj_4 b c d e p1 p2 p3 p4) ∙ simp and_assoc

pub conj_6 : (a b c d e f : Bool) {A B C D E F : Bool} → a ≡ A → b ≡ B → c ≡ C → d ≡ D → e ≡ E → f ≡ F → list_all (λ x. x) (a ∷ b ∷ c ∷ d ∷ e ∷ f ∷ []) ≡ (A && B && C && D && E && F)
conj_6 a b c d e f {A} {B} {C} {D} {E} {F} p0 p1 p2 p3 p4 p5 =
    ap (λ x. x && list_all (λ x. x) (b ∷ c ∷ d ∷ e ∷ f ∷ [])) p0 ∙ ap (λ x. A && x) (conj_5 b c d e f p1 p2 p3 p4 p5) ∙ simp and_assoc

pub conj_7 : (a b c d e f g : Bool) {A B C D E F G : Bool} → a ≡ A → b ≡ B → c ≡ C → d ≡ D → e ≡ E → f ≡ F → g ≡ G → list_all (λ x. x) (a ∷ b ∷ c ∷ d ∷ e ∷ f ∷ g ∷ []) ≡ (A && B && C && D && E && F && G)
conj_7 a b c d e f g {A} {B} {C} {D} {E} {F} {G} p0 p1 p2 p3 p4 p5 p6 =
    ap (λ x. x && list_all (λ x. x) (b ∷ c ∷ d ∷ e ∷ f ∷ g ∷ [])) p0 ∙ ap (λ x. A && x) (conj_6 b c d e f g p1 p2 p3 p4 p5 p6) ∙ simp and_assoc

pub conj_8 : (a b c d e f g h : Bool) {A B C D E F G H : Bool} → a ≡ A → b ≡ B → c ≡ C → d ≡ D → e ≡ E → f ≡ F → g ≡ G → h ≡ H → list_all (λ x. x) (a ∷ b ∷ c ∷ d ∷ e ∷ f ∷ g ∷ h ∷ []) ≡ (A && B && C && D && E && F && G && H)
conj_8 a b c d e f g h {A} {B} {C} {D} {E} {F} {G} {H} p0 p1 p2 p3 p4 p5 p6 p7 =
    ap (λ x. x && list_all (λ x. x) (b ∷ c ∷ d ∷ e ∷ f ∷ g ∷ h ∷ [])) p0 ∙ ap (λ x. A && x) (conj_7 b c d e f g h p1 p2 p3 p4 p5 p6 p7) ∙ simp and_assoc

pub conj_9 : (a b c d e f g h i : Bool) {A B C D E F G H I : Bool} → a ≡ A → b ≡ B → c ≡ C → d ≡ D → e ≡ E → f ≡ F → g ≡ G → h ≡ H → i ≡ I → list_all (λ x. x) (a ∷ b ∷ c ∷ d ∷ e ∷ f ∷ g ∷ h ∷ i ∷ []) ≡ (A && B && C && D && E && F && G && H && I)
conj_9 a b c d e f g h i {A} {B} {C} {D} {E} {F} {G} {H} {I} p0 p1 p2 p3 p4 p5 p6 p7 p8 =
    ap (λ x. x && list_all (λ x. x) (b ∷ c ∷ d ∷ e ∷ f ∷ g ∷ h ∷ i ∷ [])) p0 ∙ ap (λ x. A && x) (conj_8 b c d e f g h i p1 p2 p3 p4 p5 p6 p7 p8) ∙ simp and_assoc

pub conj_10 : (a b c d e f g h i j : Bool) {A B C D E F G H I J : Bool} → a ≡ A → b ≡ B → c ≡ C → d ≡ D → e ≡ E → f ≡ F → g ≡ G → h ≡ H → i ≡ I → j ≡ J → list_all (λ x. x) (a ∷ b ∷ c ∷ d ∷ e ∷ f ∷ g ∷ h ∷ i ∷ j ∷ []) ≡ (A && B && C && D && E && F && G && H && I && J)
conj_10 a b c d e f g h i j {A} {B} {C} {D} {E} {F} {G} {H} {I} {J} p0 p1 p2 p3 p4 p5 p6 p7 p8 p9 =
    ap (λ x. x && list_all (λ x. x) (b ∷ c ∷ d ∷ e ∷ f ∷ g ∷ h ∷ i ∷ j ∷ [])) p0 ∙ ap (λ x. A && x) (conj_9 b c d e f g h i j p1 p2 p3 p4 p5 p6 p7 p8 p9) ∙ simp and_assoc

pub conj_11 : (a b c d e f g h i j k : Bool) {A B C D E F G H I J K : Bool} → a ≡ A → b ≡ B → c ≡ C → d ≡ D → e ≡ E → f ≡ F → g ≡ G → h ≡ H → i ≡ I → j ≡ J → k ≡ K → list_all (λ x. x) (a ∷ b ∷ c ∷ d ∷ e ∷ f ∷ g ∷ h ∷ i ∷ j ∷ k ∷ []) ≡ (A && B && C && D && E && F && G && H && I && J && K)
conj_11 a b c d e f g h i j k {A} {B} {C} {D} {E} {F} {G} {H} {I} {J} {K} p0 p1 p2 p3 p4 p5 p6 p7 p8 p9 p10 =
    ap (λ x. x && list_all (λ x. x) (b ∷ c ∷ d ∷ e ∷ f ∷ g ∷ h ∷ i ∷ j ∷ k ∷ [])) p0 ∙ ap (λ x. A && x) (conj_10 b c d e f g h i j k p1 p2 p3 p4 p5 p6 p7 p8 p9 p10) ∙ simp and_assoc

pub conj_12 : (a b c d e f g h i j k l : Bool) {A B C D E F G H I J K L : Bool} → a ≡ A → b ≡ B → c ≡ C → d ≡ D → e ≡ E → f ≡ F → g ≡ G → h ≡ H → i ≡ I → j ≡ J → k ≡ K → l ≡ L → list_all (λ x. x) (a ∷ b ∷ c ∷ d ∷ e ∷ f ∷ g ∷ h ∷ i ∷ j ∷ k ∷ l ∷ []) ≡ (A && B && C && D && E && F && G && H && I && J && K && L)
conj_12 a b c d e f g h i j k l {A} {B} {C} {D} {E} {F} {G} {H} {I} {J} {K} {L} p0 p1 p2 p3 p4 p5 p6 p7 p8 p9 p10 p11 =
    ap (λ x. x && list_all (λ x. x) (b ∷ c ∷ d ∷ e ∷ f ∷ g ∷ h ∷ i ∷ j ∷ k ∷ l ∷ [])) p0 ∙ ap (λ x. A && x) (conj_11 b c d e f g h i j k l p1 p2 p3 p4 p5 p6 p7 p8 p9 p10 p11) ∙ simp and_assoc
