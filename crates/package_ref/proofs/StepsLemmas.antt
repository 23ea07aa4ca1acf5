-- Reading from left to right gives a package just where the grammar derives it.
use Rattle.std.proofs.Common.{◌≡◌, ◌≢◌, ◌∙◌, sym, ap, subst, refl, ℕ, suc, ◌+◌, ◌<◌, nat_lt, Bool, true, false, not, ◌&&◌, ◌==◌, ◌⊎◌, inl, inr, List, [], ◌∷◌, ◌++◌, length, take, drop, arith}
use Rattle.std.specs.Prelude.{Option, Some, None, ⊤}
use Rattle.std.specs.List.{AllPass, list_all, prefix_len}
use Rattle.std.proofs.lemmas.List.{append_assoc, append_cancel_left, take-append-drop, length-take-le}
use Rattle.std.proofs.Math.Seq.{take-append_seam, drop-append_seam}
use Rattle.std.proofs.lemmas.List.Sums.{prefix_len-le-length, list_all-from_AllPass, AllPass-from_list_all}
use Rattle.std.proofs.lemmas.Option.{same_Some}
use Rattle.std.proofs.lemmas.Bool.{cases_Bool, lt-ltb, ltb-true, eq-eqb, ne_eqb, eqb-true}
use Rattle.package_ref.specs.declared.reference.PackageKind.{PackageKind}
use Rattle.package_ref.specs.declared.reference.PackageKind.TheVariants.{Npm, Jsr}
use Rattle.package_ref.specs.declared.reference.PackageRef.{PackageRef}
use Rattle.package_ref.specs.Reference.{IsRun, is_no_slash, is_of_part, IsSlash, IsName, plain, scoped, IsRequirement, IsSubPath, IsBody}
use Rattle.package_ref.specs.Steps.{Read, ◌>>=◌, or_else, maybe, read_char, run_of, read_run, read_part, read_scoped, read_name, read_requirement, read_sub_path, unless_empty, whole_package, behind_requirement, behind_name, read_body}
use Rattle.package_ref.proofs.ReferenceLemmas.{Stops, both_left, both_right, joined, no_both, begins, IsRun-all, OrBegins, IsRequirement-begins, IsSubPath-begins, OrBegins-stops, behind_stops, NameBegins, IsName-begins, begins_on}

-- ---- readings

value_same : {A : Type 0} (a b : A) (x y : List ℕ) → ◌≡◌ {A = Read A} (Some (a, x)) (Some (b, y)) → a ≡ b
value_same {A} a b x y e = ap (λ (r : A × List ℕ). r.0) (same_Some (a, x) (b, y) e)

rest_same : {A : Type 0} (a b : A) (x y : List ℕ) → ◌≡◌ {A = Read A} (Some (a, x)) (Some (b, y)) → x ≡ y
rest_same {A} a b x y e = ap (λ (r : A × List ℕ). r.1) (same_Some (a, x) (b, y) e)

-- ---- runs

-- a run in front of what stops it is as long as it is
run_len : (p : ℕ → Bool) (xs a : List ℕ) → list_all p xs ≡ true → Stops p a → prefix_len p (xs ++ a) ≡ length xs
run_len p [] [] all stop = refl
run_len p [] (b ∷ a) all stop = rw stop refl
run_len p (x ∷ xs) a all stop = rw (both_left (p x) _ all, run_len p xs a (both_right (p x) _ all) stop) (omega arith)

-- the longest run passes, and what is behind it stops it
prefix_all : (p : ℕ → Bool) (xs : List ℕ) → list_all p (take (prefix_len p xs) xs) ≡ true
prefix_all p [] = refl
prefix_all p (x ∷ xs) = elim (cases_Bool (p x)) [
  | inl e ↦
      let more : 1 + prefix_len p xs ≡ suc (prefix_len p xs) = omega arith in
      rw (e, more, e) (prefix_all p xs)
  | inr e ↦ rw e refl
]

prefix_stops : (p : ℕ → Bool) (xs : List ℕ) → Stops p (drop (prefix_len p xs) xs)
prefix_stops p [] = tt
prefix_stops p (x ∷ xs) = elim (cases_Bool (p x)) [
  | inl e ↦
      let more : 1 + prefix_len p xs ≡ suc (prefix_len p xs) = omega arith in
      rw (e, more) (prefix_stops p xs)
  | inr e ↦ rw e e
]

-- a run is read whole, if something stops it
pub read_run-run : (p : ℕ → Bool) (xs a : List ℕ) → IsRun p xs → Stops p a → read_run p (xs ++ a) ≡ Some (xs, a)
unfolding read_run
read_run-run p xs a run stop =
    let all : list_all p xs ≡ true = list_all-from_AllPass p xs run.all in
    let some : nat_lt 0 (length xs) ≡ true = lt-ltb 0 (length xs) run.some in
    rw (run_len p xs a all stop, some, take-append_seam xs a, drop-append_seam xs a) refl

-- what a reading of a run says
pub record IsReadRun (p : ℕ → Bool) (text value rest : List ℕ) : Type 0 where
  pub run : IsRun p value
  pub whole : text ≡ value ++ rest
  pub stops : Stops p rest

pub read_run_is : (p : ℕ → Bool) (text value rest : List ℕ) → read_run p text ≡ Some (value, rest)
    → IsReadRun p text value rest
unfolding read_run
read_run_is p text value rest e = elim (cases_Bool (nat_lt 0 (prefix_len p text))) [
  | inl some ↦
      let n : ℕ = prefix_len p text in
      let read : Some (take n text, drop n text) ≡ Some (value, rest) = rw some at e in
      let value_is = value_same _ _ _ _ read in
      let rest_is = rest_same _ _ _ _ read in
      let len : length (take n text) ≡ n = length-take-le n text (prefix_len-le-length p text) in
      let long : 0 < n = ltb-true 0 n some in
      record {
        run = subst (IsRun p) value_is
            (record { some = omega (arith, len, long); all = AllPass-from_list_all p _ (prefix_all p text) });
        whole = sym (take-append-drop n text) ∙ ap (λ t. t ++ drop n text) value_is ∙ ap (λ t. value ++ t) rest_is;
        stops = subst (Stops p) rest_is (prefix_stops p text);
      }
  | inr none ↦ cc (rw none at e)
]

-- ---- characters

-- a character that is there is read
pub read_char-there : (c : ℕ) (rest : List ℕ) → read_char c (c ∷ rest) ≡ Some (c, rest)
read_char-there c rest = let same : (c == c) ≡ true = eq-eqb c c refl in rw same refl

-- another one is not
pub read_char-other : (c d : ℕ) (rest : List ℕ) → d ≢ c → read_char c (d ∷ rest) ≡ None
read_char-other c d rest differs = let other : (d == c) ≡ false = ne_eqb d c differs in rw other refl

-- what a reading of a character says
pub read_char_is : (c value : ℕ) (text rest : List ℕ) → read_char c text ≡ Some (value, rest) → text ≡ c ∷ rest
read_char_is c value [] rest e = cc e
read_char_is c value (b ∷ text) rest e = elim (cases_Bool (b == c)) [
  | inl same ↦
      let read : Some (c, text) ≡ Some (value, rest) = rw same at e in
      joined b c text rest (eqb-true b c same) (rest_same _ _ _ _ read)
  | inr other ↦ cc (rw other at e)
]

-- two readings, one after the other
record IsThen {A B : Type 0} (first : Read A) (second : A → List ℕ → Read B) (value : B) (rest : List ℕ) : Type 0 where
  pub passed : A
  pub middle : List ℕ
  pub first_is : first ≡ Some (passed, middle)
  pub second_is : second passed middle ≡ Some (value, rest)

then_is : {A B : Type 0} (first : Read A) (second : A → List ℕ → Read B) (value : B) (rest : List ℕ)
    → (first >>= second) ≡ Some (value, rest) → IsThen first second value rest
then_is (Some read) second value rest e =
    record { passed = read.0; middle = read.1; first_is = refl; second_is = e }
then_is None second value rest e = cc e

-- ---- names

-- what begins with another character than `@` is no scoped name
read_scoped-none : (first : ℕ) (others : List ℕ) → first ≢ 64 → read_scoped (first ∷ others) ≡ None
unfolding read_scoped
read_scoped-none first others differs = rw (read_char-other 64 first others differs) refl

-- a scoped name is read whole, if something stops it
read_scoped-whole : (scope part a : List ℕ) → IsRun is_of_part scope → IsRun is_of_part part → Stops is_of_part a
    → read_scoped ((64 ∷ scope ++ 47 ∷ part) ++ a) ≡ Some (64 ∷ scope ++ 47 ∷ part, a)
unfolding read_scoped
read_scoped-whole scope part a of_scope of_part stop =
    rw (
      append_assoc scope (47 ∷ part) a,
      read_run-run is_of_part scope (47 ∷ (part ++ a)) of_scope refl,
      read_run-run is_of_part part a of_part stop,
    ) refl

-- a part does not begin with `@`
read_scoped-part : (name a : List ℕ) → IsRun is_of_part name → read_scoped (name ++ a) ≡ None
read_scoped-part name a run =
    let b = begins is_of_part name (IsRun-all is_of_part name run) run.some in
    rw b.is (read_scoped-none b.first (b.others ++ a) (λ e. no_both is_of_part b.first 64 b.passes refl e))

-- a name is read whole, if something stops it
read_name-whole : (kind : PackageKind) (name a : List ℕ) → IsName kind name → Stops is_of_part a
    → read_name kind (name ++ a) ≡ Some (name, a)
read_name-whole Npm name a (plain npm run) stop =
    rw (read_scoped-part name a run, read_run-run is_of_part name a run stop) refl
read_name-whole Jsr name a (plain npm run) stop = cc npm
read_name-whole Npm name a (scoped scope part s p is) stop = rw (is, read_scoped-whole scope part a s p stop) refl
read_name-whole Jsr name a (scoped scope part s p is) stop = rw (is, read_scoped-whole scope part a s p stop) refl

-- what a reading of a name says
pub record IsReadName (kind : PackageKind) (text name rest : List ℕ) : Type 0 where
  pub name_is : IsName kind name
  pub whole : text ≡ name ++ rest

pub read_scoped_is : (kind : PackageKind) (text name rest : List ℕ) → read_scoped text ≡ Some (name, rest)
    → IsReadName kind text name rest
unfolding read_scoped
read_scoped_is kind text name rest e =
    let all = then_is _ _ name rest e in
    let one = then_is _ _ all.passed all.middle all.first_is in
    let two = then_is _ _ all.passed all.middle one.second_is in
    let a = then_is _ _ one.passed one.middle one.first_is in
    let c = then_is _ _ two.passed two.middle two.first_is in
    let at = read_char_is 64 a.passed text a.middle a.first_is in
    let scope = read_run_is is_of_part a.middle one.passed one.middle a.second_is in
    let slash = read_char_is 47 c.passed one.middle c.middle c.first_is in
    let part = read_run_is is_of_part c.middle two.passed two.middle c.second_is in
    let both_is = value_same (one.passed, two.passed) all.passed two.middle all.middle two.second_is in
    let value = ap (λ (v : List ℕ × List ℕ). 64 ∷ v.0 ++ 47 ∷ v.1) both_is ∙ value_same _ _ _ _ all.second_is in
    let left = rest_same _ _ _ _ two.second_is ∙ rest_same _ _ _ _ all.second_is in
    let behind : one.middle ≡ 47 ∷ (two.passed ++ rest)
    = slash ∙ ap (λ t. 47 ∷ t) part.whole ∙ ap (λ t. 47 ∷ (two.passed ++ t)) left in
    record {
      name_is = scoped one.passed two.passed scope.run part.run (sym value);
      whole = at ∙ ap (λ t. 64 ∷ t) scope.whole ∙ ap (λ t. 64 ∷ (one.passed ++ t)) behind
          ∙ ap (λ t. 64 ∷ t) (sym (append_assoc one.passed (47 ∷ two.passed) rest)) ∙ ap (λ t. t ++ rest) value;
    }

-- by whether it is scoped
read_npm_name_is : (text name rest : List ℕ) (first : Read (List ℕ)) → read_scoped text ≡ first
    → or_else first (read_part text) ≡ Some (name, rest) → IsReadName Npm text name rest
read_npm_name_is text name rest (Some read) is e = read_scoped_is Npm text name rest (is ∙ e)
read_npm_name_is text name rest None is e =
    let part = read_run_is is_of_part text name rest e in
    record { name_is = plain refl part.run; whole = part.whole }

read_name_is : (kind : PackageKind) (text name rest : List ℕ) → read_name kind text ≡ Some (name, rest)
    → IsReadName kind text name rest
read_name_is Npm text name rest e = read_npm_name_is text name rest (read_scoped text) refl e
read_name_is Jsr text name rest e = read_scoped_is Jsr text name rest e

-- ---- what stands in front of a name

-- a `/` in front of a name is passed over
less_slash : (slash m : List ℕ) → IsSlash slash → NameBegins m → (maybe (read_char 47 (slash ++ m)) (slash ++ m)).1 ≡ m
less_slash slash m (inl e) of_m =
    rw (e, of_m.3, read_char-other 47 of_m.0 of_m.1 of_m.2) refl
less_slash slash m (inr e) of_m = rw e refl

-- what was passed over is nothing or a `/`
record IsLessSlash (text rest : List ℕ) : Type 0 where
  pub slash : List ℕ
  pub slash_is : IsSlash slash
  pub whole : text ≡ slash ++ rest

less_slash_is : (text : List ℕ) (read : Read ℕ) → read_char 47 text ≡ read → IsLessSlash text (maybe read text).1
less_slash_is text (Some read) e =
    record { slash = 47 ∷ []; slash_is = inr refl; whole = read_char_is 47 read.0 text read.1 e }
less_slash_is text None e = record { slash = []; slash_is = inl refl; whole = refl }

-- ---- what stands behind a name

-- the same as a pair
paired : {A : Type 0} (read : Option A × List ℕ) (a : Option A) (rest : List ℕ) → read.0 ≡ a → read.1 ≡ rest
    → read ≡ (a, rest)
paired read a rest e d = λ i. (e i, d i)

-- a text that begins with `/` or is empty has no `@`
read_char-none : (c d : ℕ) (text : List ℕ) → d ≢ c → OrBegins d text → read_char c text ≡ None
read_char-none c d text differs (inl e) = rw e refl
read_char-none c d text differs (inr (rest, e)) = rw (e, read_char-other c d rest differs) refl

-- a requirement is read whole, if a sub path or nothing stops it
read_requirement-whole : (text sub : List ℕ) (o : Option (List ℕ)) → IsRequirement text o → OrBegins 47 sub
    → maybe (read_requirement (text ++ sub)) (text ++ sub) ≡ (o, sub)
read_requirement-whole text sub None is of_sub =
    rw (is, read_char-none 64 47 sub (λ e. no_both (λ b. b == 47) 47 64 refl refl e) of_sub) refl
read_requirement-whole text sub (Some r) is of_sub =
    rw (is.0, read_run-run is_no_slash r sub is.1 (OrBegins-stops is_no_slash 47 sub refl of_sub)) refl

-- what a reading of a requirement says
record IsReadRequirement (text : List ℕ) (read : Option (List ℕ) × List ℕ) : Type 0 where
  pub front : List ℕ
  pub front_is : IsRequirement front read.0
  pub whole : text ≡ front ++ read.1

read_requirement_is : (text : List ℕ) (read : Read (List ℕ)) → read_requirement text ≡ read
    → IsReadRequirement text (maybe read text)
read_requirement_is text (Some read) e =
    let a = then_is _ _ read.0 read.1 e in
    let at = read_char_is 64 a.passed text a.middle a.first_is in
    let run = read_run_is is_no_slash a.middle read.0 read.1 a.second_is in
    record { front = 64 ∷ read.0; front_is = (refl, run.run); whole = at ∙ ap (λ t. 64 ∷ t) run.whole }
read_requirement_is text None e = record { front = []; front_is = refl; whole = refl }

-- the package of these parts
abbrev package_of : PackageKind → List ℕ → Option (List ℕ) → Option (List ℕ) → PackageRef
package_of kind name requirement sub_path =
    record { kind = kind; name = name; requirement = requirement; sub_path = sub_path }

-- a sub path is read whole
read_sub_path-whole : (kind : PackageKind) (name text : List ℕ) (o q : Option (List ℕ)) → IsSubPath text q
    → whole_package kind name o (maybe (read_sub_path text) text) ≡ Some (package_of kind name o q)
read_sub_path-whole kind name text o None (inl e) = rw e refl
read_sub_path-whole kind name text o None (inr e) = rw e refl
read_sub_path-whole kind name text o (Some []) (e, some) = absurd (omega arith)
read_sub_path-whole kind name text o (Some (b ∷ s)) (e, some) = rw e refl

-- what a package of a sub path that was read says
record IsOfSubPath (kind : PackageKind) (name text : List ℕ) (requirement : Option (List ℕ)) (r : PackageRef) : Type 0
  where
    pub sub_path : Option (List ℕ)
    pub sub_path_is : IsSubPath text sub_path
    pub package_is : package_of kind name requirement sub_path ≡ r

-- the same of a sub path behind its `/`
behind_slash_is : (kind : PackageKind) (name text : List ℕ) (o : Option (List ℕ)) (r : PackageRef) (s : List ℕ)
    → text ≡ 47 ∷ s → whole_package kind name o (Some s, []) ≡ Some r → IsOfSubPath kind name text o r
behind_slash_is kind name text o r [] is e =
    record { sub_path = None; sub_path_is = inr is; package_is = same_Some _ _ e }
behind_slash_is kind name text o r (b ∷ s) is e =
    record { sub_path = Some (b ∷ s); sub_path_is = (is, omega arith); package_is = same_Some _ _ e }

-- the same where there is none
no_slash_is : (kind : PackageKind) (name text : List ℕ) (o : Option (List ℕ)) (r : PackageRef)
    → whole_package kind name o (None, text) ≡ Some r → IsOfSubPath kind name text o r
no_slash_is kind name [] o r e = record { sub_path = None; sub_path_is = inl refl; package_is = same_Some _ _ e }
no_slash_is kind name (b ∷ text) o r e = cc e

-- the same of a reading
read_sub_path_is : (kind : PackageKind) (name text : List ℕ) (o : Option (List ℕ)) (r : PackageRef)
    (read : Read (List ℕ))
    → read_sub_path text ≡ read → whole_package kind name o (maybe read text) ≡ Some r → IsOfSubPath kind name text o r
read_sub_path_is kind name text o r None is e = no_slash_is kind name text o r e
read_sub_path_is kind name text o r (Some read) is e =
    let a = then_is _ _ read.0 read.1 is in
    let slash = read_char_is 47 a.passed text a.middle a.first_is in
    let value = value_same _ _ _ _ a.second_is in
    let left = rest_same _ _ _ _ a.second_is in
    let whole = paired (Some a.middle, []) (Some read.0) read.1 (ap (λ (t : List ℕ). Some t) value) left in
    behind_slash_is kind name text o r a.middle slash
    (ap (λ (p : Option (List ℕ) × List ℕ). whole_package kind name o p) whole ∙ e)

-- ---- a body

-- a body of a package is read as it
pub read_body-whole : (text : List ℕ) (r : PackageRef) → IsBody text r → read_body r.kind text ≡ Some r
unfolding read_body
read_body-whole text r b =
    let behind : List ℕ = b.requirement ++ b.sub_path in
    let of_sub = IsSubPath-begins b.sub_path r.sub_path b.sub_path_is in
    let stop = behind_stops b.requirement b.sub_path
    (IsRequirement-begins b.requirement r.requirement b.requirement_is) of_sub in
    let start : (maybe (read_char 47 text) text).1 ≡ r.name ++ behind
    = ap (λ t. (maybe (read_char 47 t) t).1) b.whole
    ∙ less_slash b.slash (r.name ++ behind) b.slash_is
    (begins_on r.name behind (IsName-begins r.kind r.name b.name_is)) in
    ap (λ t. behind_name r.kind (read_name r.kind t)) start
    ∙ ap (λ (x : Read (List ℕ)). behind_name r.kind x) (read_name-whole r.kind r.name behind b.name_is stop)
    ∙ ap (λ (p : Option (List ℕ) × List ℕ). behind_requirement r.kind r.name p)
    (read_requirement-whole b.requirement b.sub_path r.requirement b.requirement_is of_sub)
    ∙ read_sub_path-whole r.kind r.name b.sub_path r.requirement r.sub_path b.sub_path_is

-- what is read is the package of the body
record IsReadBody (kind : PackageKind) (text : List ℕ) (r : PackageRef) : Type 0 where
  pub kind_is : r.kind ≡ kind
  pub body : IsBody text r

behind_name_is : (kind : PackageKind) (text : List ℕ) (r : PackageRef)
    (slash : IsLessSlash text (maybe (read_char 47 text) text).1)
    (read : Read (List ℕ)) → read_name kind (maybe (read_char 47 text) text).1 ≡ read → behind_name kind read ≡ Some r
    → IsReadBody kind text r
behind_name_is kind text r slash None is e = cc e
behind_name_is kind text r slash (Some read) is e =
    let name = read_name_is kind _ read.0 read.1 is in
    let requirement = read_requirement_is read.1 (read_requirement read.1) refl in
    let left : Option (List ℕ) × List ℕ = maybe (read_requirement read.1) read.1 in
    let sub = read_sub_path_is kind read.0 left.1 left.0 r (read_sub_path left.1) refl e in
    let P : PackageRef → Type 0 = λ p. IsReadBody kind text p in
    subst P sub.package_is (record {
      kind_is = refl;
      body = record {
        slash = slash.slash;
        requirement = requirement.front;
        sub_path = left.1;
        whole = slash.whole ∙ ap (λ t. slash.slash ++ t) (name.whole ∙ ap (λ t. read.0 ++ t) requirement.whole);
        slash_is = slash.slash_is;
        name_is = name.name_is;
        requirement_is = requirement.front_is;
        sub_path_is = sub.sub_path_is;
      };
    })

pub read_body_is : (kind : PackageKind) (text : List ℕ) (r : PackageRef) → read_body kind text ≡ Some r
    → (r.kind ≡ kind) × IsBody text r
unfolding read_body
read_body_is kind text r e =
    let read = behind_name_is kind text r (less_slash_is text (read_char 47 text) refl) _ refl e in
    (read.kind_is, read.body)
