-- A text is a reference to at most one package.
use Rattle.std.proofs.Common.{◌≡◌, ◌≢◌, ◌∙◌, sym, ap, subst, refl, ℕ, ◌+◌, ◌<◌, Bool, true, false, not, ◌&&◌, ◌==◌, ◌⊎◌, inl, inr, List, [], ◌∷◌, ◌++◌, length, arith}
use Rattle.std.specs.Prelude.{Option, Some, None, ⊤}
use Rattle.std.specs.List.{AllPass, list_all, before_first}
use Rattle.std.proofs.lemmas.List.{append_assoc, append_cancel_left}
use Rattle.std.proofs.lemmas.List.Sums.{list_all-from_AllPass}
use Rattle.package_ref.specs.declared.reference.PackageKind.{PackageKind}
use Rattle.package_ref.specs.declared.reference.PackageKind.TheVariants.{Npm, Jsr}
use Rattle.package_ref.specs.declared.reference.PackageRef.{PackageRef}
use Rattle.package_ref.specs.Reference.{IsRun, is_no_slash, is_of_part, IsSlash, IsName, plain, scoped, IsRequirement, IsSubPath, IsBody, scheme_of, ends_body, IsReference}

-- ---- lists and tests

heads : (x y : ℕ) (xs ys : List ℕ) → x ∷ xs ≡ y ∷ ys → x ≡ y
heads x y xs ys e = cc

tails : (x y : ℕ) (xs ys : List ℕ) → x ∷ xs ≡ y ∷ ys → xs ≡ ys
tails x y xs ys e = cc

pub joined : (x y : ℕ) (xs ys : List ℕ) → x ≡ y → xs ≡ ys → x ∷ xs ≡ y ∷ ys
joined x y xs ys e d = cc

pub both_left : (a b : Bool) → (a && b) ≡ true → a ≡ true
both_left true b e = refl
both_left false b e = cc

pub both_right : (a b : Bool) → (a && b) ≡ true → b ≡ true
both_right true b e = e
both_right false b e = cc

empty_is_short : (xs : List ℕ) → 0 < length xs → xs ≡ [] → ⊥
empty_is_short [] some e = absurd (omega arith)
empty_is_short (x ∷ xs) some e = cc

-- ---- runs

-- the text is over, or its first character fails the test
abbrev pub Stops : (ℕ → Bool) → List ℕ → Type 0
Stops p [] = ⊤
Stops p (b ∷ text) = p b ≡ false

-- a test that fails and is passed
pub no_both : (p : ℕ → Bool) (x y : ℕ) → p x ≡ true → p y ≡ false → x ≡ y → ⊥
no_both p x y passed failed e = cc

-- a run is cut off in one way
pub one_run : (p : ℕ → Bool) (xs ys a b : List ℕ) → list_all p xs ≡ true → list_all p ys ≡ true → Stops p a → Stops p b
    → xs ++ a ≡ ys ++ b → (xs ≡ ys) × (a ≡ b)
one_run p [] [] a b all_x all_y stop_a stop_b e = (refl, e)
one_run p [] (y ∷ ys) [] b all_x all_y stop_a stop_b e = cc
one_run p [] (y ∷ ys) (c ∷ a) b all_x all_y stop_a stop_b e =
    absurd (no_both p y c (both_left (p y) _ all_y) stop_a (heads _ _ _ _ (sym e)))
one_run p (x ∷ xs) [] a [] all_x all_y stop_a stop_b e = cc
one_run p (x ∷ xs) [] a (c ∷ b) all_x all_y stop_a stop_b e =
    absurd (no_both p x c (both_left (p x) _ all_x) stop_b (heads _ _ _ _ e))
one_run p (x ∷ xs) (y ∷ ys) a b all_x all_y stop_a stop_b e =
    let rest = one_run p xs ys a b (both_right (p x) _ all_x) (both_right (p y) _ all_y) stop_a stop_b
    (tails _ _ _ _ e) in
    (joined x y xs ys (heads _ _ _ _ e) rest.0, rest.1)

-- the test of each character, and that there is one
pub IsRun-all : (p : ℕ → Bool) (xs : List ℕ) → IsRun p xs → list_all p xs ≡ true
IsRun-all p xs run = list_all-from_AllPass p xs run.all

-- a run begins with a character that passes
pub record Begins (p : ℕ → Bool) (xs : List ℕ) : Type 0 where
  pub first : ℕ
  pub others : List ℕ
  pub passes : p first ≡ true
  pub is : xs ≡ first ∷ others

pub begins : (p : ℕ → Bool) (xs : List ℕ) → list_all p xs ≡ true → 0 < length xs → Begins p xs
begins p [] all some = absurd (omega arith)
begins p (x ∷ xs) all some = record { first = x; others = xs; passes = both_left (p x) _ all; is = refl }

-- ---- the parts behind the name

-- nothing, or it begins with this character
abbrev pub OrBegins : ℕ → List ℕ → Type 0
OrBegins c text = (text ≡ []) ⊎ ((rest : List ℕ) × (text ≡ c ∷ rest))

pub IsRequirement-begins : (text : List ℕ) (o : Option (List ℕ)) → IsRequirement text o → OrBegins 64 text
IsRequirement-begins text None is = inl is
IsRequirement-begins text (Some r) is = inr (r, is.0)

pub IsSubPath-begins : (text : List ℕ) (o : Option (List ℕ)) → IsSubPath text o → OrBegins 47 text
IsSubPath-begins text None (inl e) = inl e
IsSubPath-begins text None (inr e) = inr ([], e)
IsSubPath-begins text (Some r) is = inr (r, is.0)

-- what begins with a character that fails stops a run
pub OrBegins-stops : (p : ℕ → Bool) (c : ℕ) (text : List ℕ) → p c ≡ false → OrBegins c text → Stops p text
OrBegins-stops p c text fails (inl e) = subst (Stops p) (sym e) tt
OrBegins-stops p c text fails (inr (rest, e)) = subst (Stops p) (sym e) fails

-- the parts behind a name stop it
pub behind_stops : (requirement sub_path : List ℕ) → OrBegins 64 requirement → OrBegins 47 sub_path
    → Stops is_of_part (requirement ++ sub_path)
behind_stops requirement sub_path (inl e) is =
    subst (λ t. Stops is_of_part (t ++ sub_path)) (sym e) (OrBegins-stops is_of_part 47 sub_path refl is)
behind_stops requirement sub_path (inr (rest, e)) is = subst (λ t. Stops is_of_part (t ++ sub_path)) (sym e) refl

-- a sub path is read in one way
one_sub_path : (a b : List ℕ) (o q : Option (List ℕ)) → IsSubPath a o → IsSubPath b q → a ≡ b → o ≡ q
one_sub_path a b None None is also e = refl
one_sub_path a b None (Some s) (inl n) also e = cc (n, also.0, e)
one_sub_path a b None (Some s) (inr n) also e =
    let none : s ≡ [] = tails 47 47 s [] (sym also.0 ∙ sym e ∙ n) in
    absurd (empty_is_short s also.1 none)
one_sub_path a b (Some s) None is (inl n) e = cc (n, is.0, e)
one_sub_path a b (Some s) None is (inr n) e =
    let none : s ≡ [] = tails 47 47 s [] (sym is.0 ∙ e ∙ n) in
    absurd (empty_is_short s is.1 none)
one_sub_path a b (Some s) (Some t) is also e = ap (λ (x : List ℕ). Some x) (tails 47 47 s t (sym is.0 ∙ e ∙ also.0))

-- what begins with `/` or is empty does not begin with `@`
begins_otherwise : (x y r : List ℕ) → OrBegins 47 x → x ≡ 64 ∷ (r ++ y) → ⊥
begins_otherwise x y r (inl n) e = cc
begins_otherwise x y r (inr (rest, n)) e =
    absurd (no_both (λ b. b == 47) 47 64 refl refl (heads 47 64 rest (r ++ y) (sym n ∙ e)))

-- a requirement and a sub path are read in one way
one_behind : (a b x y : List ℕ) (o q u v : Option (List ℕ)) → IsRequirement a o → IsRequirement b q
    → IsSubPath x u → IsSubPath y v → a ++ x ≡ b ++ y → (o ≡ q) × (u ≡ v)
one_behind a b x y None None u v is_a is_b is_x is_y e =
    (refl, one_sub_path x y u v is_x is_y (cc (is_a, is_b)))
one_behind a b x y None (Some r) u v is_a is_b is_x is_y e =
    absurd (begins_otherwise x y r (IsSubPath-begins x u is_x)
    (sym (ap (λ t. t ++ x) is_a) ∙ e ∙ ap (λ t. t ++ y) is_b.0))
one_behind a b x y (Some r) None u v is_a is_b is_x is_y e =
    absurd (begins_otherwise y x r (IsSubPath-begins y v is_y)
    (sym (ap (λ t. t ++ y) is_b) ∙ sym e ∙ ap (λ t. t ++ x) is_a.0))
one_behind a b x y (Some r) (Some s) u v is_a is_b is_x is_y e =
    let behind : r ++ x ≡ s ++ y
    = tails 64 64 (r ++ x) (s ++ y) (sym (ap (λ t. t ++ x) is_a.0) ∙ e ∙ ap (λ t. t ++ y) is_b.0) in
    let cut = one_run is_no_slash r s x y (IsRun-all is_no_slash r is_a.1) (IsRun-all is_no_slash s is_b.1)
    (OrBegins-stops is_no_slash 47 x refl (IsSubPath-begins x u is_x))
    (OrBegins-stops is_no_slash 47 y refl (IsSubPath-begins y v is_y)) behind in
    (ap (λ (t : List ℕ). Some t) cut.0, one_sub_path x y u v is_x is_y cut.1)

-- ---- names

-- the first character of a name is no `/`
abbrev pub NameBegins : List ℕ → Type 0
NameBegins name = (first : ℕ) × (others : List ℕ) × (first ≢ 47) × (name ≡ first ∷ others)

part_begins : (name : List ℕ) → Begins is_of_part name → NameBegins name
part_begins name b = (b.first, b.others, (λ e. no_both is_of_part b.first 47 b.passes refl e), b.is)

pub IsName-begins : (kind : PackageKind) (name : List ℕ) → IsName kind name → NameBegins name
IsName-begins kind name (plain npm run) =
    part_begins name (begins is_of_part name (IsRun-all is_of_part name run) run.some)
IsName-begins kind name (scoped scope part a b is) = (64, scope ++ 47 ∷ part, (λ e. omega arith), is)

-- a name that begins with `@` is no part
at_is_no_part : (name rest a b : List ℕ) → IsRun is_of_part name → name ++ a ≡ 64 ∷ b → ⊥
at_is_no_part name rest a b run e =
    let first = begins is_of_part name (IsRun-all is_of_part name run) run.some in
    no_both is_of_part first.first 64 first.passes refl
    (heads first.first 64 (first.others ++ a) b (sym (ap (λ t. t ++ a) first.is) ∙ e))

-- a name is cut off in one way
one_name : (kind : PackageKind) (m n a b : List ℕ) → IsName kind m → IsName kind n → Stops is_of_part a
    → Stops is_of_part b
    → m ++ a ≡ n ++ b → (m ≡ n) × (a ≡ b)
one_name kind m n a b (plain npm run) (plain npm' run') stop_a stop_b e =
    one_run is_of_part m n a b (IsRun-all is_of_part m run) (IsRun-all is_of_part n run') stop_a stop_b e
one_name kind m n a b (plain npm run) (scoped scope part s p is) stop_a stop_b e =
    absurd (at_is_no_part m [] a _ run (e ∙ ap (λ t. t ++ b) is))
one_name kind m n a b (scoped scope part s p is) (plain npm run) stop_a stop_b e =
    absurd (at_is_no_part n [] b _ run (sym e ∙ ap (λ t. t ++ a) is))
one_name kind m n a b (scoped scope part s p is) (scoped scope' part' s' p' is') stop_a stop_b e =
    let whole : scope ++ (47 ∷ (part ++ a)) ≡ scope' ++ (47 ∷ (part' ++ b))
    = sym (append_assoc scope (47 ∷ part) a) ∙ tails 64 64 _ _ (sym (ap (λ t. t ++ a) is) ∙ e ∙ ap (λ t. t ++ b) is')
    ∙ append_assoc scope' (47 ∷ part') b in
    let first = one_run is_of_part scope scope' (47 ∷ (part ++ a)) (47 ∷ (part' ++ b)) (IsRun-all is_of_part scope s)
    (IsRun-all is_of_part scope' s') refl refl whole in
    let second = one_run is_of_part part part' a b (IsRun-all is_of_part part p) (IsRun-all is_of_part part' p') stop_a
    stop_b
    (tails 47 47 _ _ first.1) in
    (is ∙ ap (λ t. 64 ∷ (t ++ (47 ∷ part))) first.0 ∙ ap (λ t. 64 ∷ (scope' ++ (47 ∷ t))) second.0 ∙ sym is', second.1)

-- ---- bodies

-- a `/` in front of a name is taken or not in one way
one_slash : (x y m n : List ℕ) → IsSlash x → IsSlash y → NameBegins m → NameBegins n → x ++ m ≡ y ++ n → m ≡ n
one_slash x y m n (inl a) (inl b) of_m of_n e = cc (a, b)
one_slash x y m n (inr a) (inr b) of_m of_n e = tails 47 47 m n (sym (ap (λ t. t ++ m) a) ∙ e ∙ ap (λ t. t ++ n) b)
one_slash x y m n (inl a) (inr b) of_m of_n e =
    absurd (of_m.2 (heads _ 47 of_m.1 n (sym of_m.3 ∙ sym (ap (λ t. t ++ m) a) ∙ e ∙ ap (λ t. t ++ n) b)))
one_slash x y m n (inr a) (inl b) of_m of_n e =
    absurd (of_n.2 (heads _ 47 of_n.1 m (sym of_n.3 ∙ sym (ap (λ t. t ++ n) b) ∙ sym e ∙ ap (λ t. t ++ m) a)))

-- more behind a name
pub begins_on : (m a : List ℕ) → NameBegins m → NameBegins (m ++ a)
begins_on m a of_m = (of_m.0, of_m.1 ++ a, of_m.2, ap (λ t. t ++ a) of_m.3)

-- the same package, part by part
one_package : (r s : PackageRef) → r.kind ≡ s.kind → r.name ≡ s.name → r.requirement ≡ s.requirement
    → r.sub_path ≡ s.sub_path
    → r ≡ s
one_package r s kind name requirement sub_path =
    λ i. record { kind = kind i; name = name i; requirement = requirement i; sub_path = sub_path i }

-- a body is read in one way
pub one_body : (text other : List ℕ) (r s : PackageRef) → r.kind ≡ s.kind → text ≡ other → IsBody text r
    → IsBody other s → r ≡ s
one_body text other r s kind e of_r of_s =
    let name : IsName r.kind s.name = subst (λ k. IsName k s.name) (sym kind) of_s.name_is in
    let behind_r : List ℕ = of_r.requirement ++ of_r.sub_path in
    let behind_s : List ℕ = of_s.requirement ++ of_s.sub_path in
    let stop_r : Stops is_of_part behind_r = behind_stops of_r.requirement of_r.sub_path
    (IsRequirement-begins _ r.requirement of_r.requirement_is) (IsSubPath-begins _ r.sub_path of_r.sub_path_is) in
    let stop_s : Stops is_of_part behind_s = behind_stops of_s.requirement of_s.sub_path
    (IsRequirement-begins _ s.requirement of_s.requirement_is) (IsSubPath-begins _ s.sub_path of_s.sub_path_is) in
    let names : r.name ++ behind_r ≡ s.name ++ behind_s
    = one_slash of_r.slash of_s.slash _ _ of_r.slash_is of_s.slash_is
    (begins_on r.name behind_r (IsName-begins r.kind r.name of_r.name_is))
    (begins_on s.name behind_s (IsName-begins r.kind s.name name)) (sym of_r.whole ∙ e ∙ of_s.whole) in
    let cut = one_name r.kind r.name s.name behind_r behind_s of_r.name_is name stop_r stop_s names in
    let behind = one_behind of_r.requirement of_s.requirement of_r.sub_path of_s.sub_path r.requirement s.requirement
    r.sub_path s.sub_path of_r.requirement_is of_s.requirement_is of_r.sub_path_is of_s.sub_path_is cut.1 in
    one_package r s kind cut.0 behind.0 behind.1

-- a scheme is read in one way
pub one_scheme : (k l : PackageKind) (a b : List ℕ) → scheme_of k ++ a ≡ scheme_of l ++ b → (k ≡ l) × (a ≡ b)
one_scheme Npm Npm a b e = (refl, append_cancel_left (scheme_of Npm) a b e)
one_scheme Jsr Jsr a b e = (refl, append_cancel_left (scheme_of Jsr) a b e)
one_scheme Npm Jsr a b e = absurd (no_both (λ b. b == 110) 110 106 refl refl (heads 110 106 _ _ e))
one_scheme Jsr Npm a b e = absurd (no_both (λ b. b == 106) 106 110 refl refl (heads 106 110 _ _ e))

-- a text is a reference to one package
pub IsReference-once : (text : List ℕ) (r s : PackageRef) → IsReference text r → IsReference text s → r ≡ s
IsReference-once text r s of_r of_s =
    let cut = one_scheme r.kind s.kind of_r.rest of_s.rest (sym of_r.whole ∙ of_s.whole) in
    one_body _ _ r s cut.0 (ap (λ t. before_first ends_body t) cut.1) of_r.body of_s.body
