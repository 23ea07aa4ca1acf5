-- From readings of the parts to the answer.
use Rattle.std.proofs.Common.{◌≡◌, ◌≢◌, ◌∙◌, sym, ap, subst, refl, ℕ, suc, ◌+◌, ◌<◌, Bool, true, false, not, ◌||◌, ◌==◌, List, [], ◌∷◌, ◌++◌, length, take, drop, inl, inr, arith}
use Rattle.std.specs.Prelude.{Option, Some, None, Result, Ok, Err, IsErrAnd}
use Rattle.std.specs.Option.{option_copied}
use Rattle.std.specs.Borrow.{Bor}
use Rattle.std.specs.List.{before_first, prefix_len, position_or_len}
use Rattle.std.proofs.lemmas.Bool.{cases_Bool, eqb-true}
use Rattle.std.proofs.lemmas.Option.{same_Some}
use Rattle.monch.specs.core_parsers.Outcome.{success, refused}
use Rattle.monch.specs.Seen.{refusal_of}
use Rattle.monch.specs.declared.core_parsers.error.ParseError.{ParseError}
use Rattle.monch.specs.declared.core_parsers.error.ParseError.TheVariants as parse
use Rattle.package_ref.specs.Faults.{fault_of}
use Rattle.package_ref.specs.declared.reference.PackageKind.{PackageKind}
use Rattle.package_ref.specs.declared.reference.PackageRef.{PackageRef}
use Rattle.package_ref.specs.declared.error.PackageError.{PackageError}
use Rattle.package_ref.specs.declared.error.PackageError.TheVariants.{NotAReference, OutOfMemory}
use Rattle.package_ref.specs.Reference.{scheme_of, ends_body, IsReference, IsBody}
use Rattle.package_ref.specs.Steps.{Read, maybe, read_char, read_name, read_requirement, read_sub_path, unless_empty, whole_package, behind_requirement, behind_name, read_body, Tells, TellsMaybe, bytes_of, IsAnswer, SplitsScheme, AnswersReference}
use Rattle.package_ref.proofs.ReferenceLemmas.{one_scheme}
use Rattle.package_ref.proofs.StepsLemmas.{read_body-whole, read_body_is}

-- ---- options and tests

none_is_not_some : {A : Type 0} {P : Type 0} (x : A) → None ≡ Some x → P
none_is_not_some {A} {P} x e = absurd (cc e)

or_left : (a b : Bool) → a ≡ true → (a || b) ≡ true
or_left a b e = rw e refl

or_right : (a b : Bool) → b ≡ true → (a || b) ≡ true
or_right true b e = refl
or_right false b e = e

or_none : (a b : Bool) → a ≡ false → b ≡ false → (a || b) ≡ false
or_none a b e d = rw (e, d) refl

-- ---- a body

-- what may be missing, and the rest
maybe_is : (read : Option (List ℕ) × List ℕ) (rest : List ℕ) (value : Option (Bor (List ℕ)))
    → TellsMaybe bytes_of read (success rest value) → read ≡ (option_copied value, rest)
maybe_is read rest (Some value) tells = tells
maybe_is read rest None tells = tells

maybe_rest : (read : Option ℕ × List ℕ) (rest : List ℕ) (value : Option ℕ)
    → TellsMaybe (λ (c : ℕ). c) read (success rest value) → read.1 ≡ rest
maybe_rest read rest (Some value) tells = ap (λ (r : Option ℕ × List ℕ). r.1) tells
maybe_rest read rest None tells = ap (λ (r : Option ℕ × List ℕ). r.1) tells

-- from the readings of the parts
pub read_body_from : (kind : PackageKind) (text one two three four : List ℕ) (slash : Option ℕ) (name : Bor (List ℕ))
    (requirement sub_path : Option (Bor (List ℕ)))
    → TellsMaybe (λ (c : ℕ). c) (maybe (read_char 47 text) text) (success one slash)
    → Tells bytes_of (read_name kind one) (success two name)
    → TellsMaybe bytes_of (maybe (read_requirement two) two) (success three requirement)
    → TellsMaybe bytes_of (maybe (read_sub_path three) three) (success four sub_path)
    → read_body kind text ≡ whole_package kind name.now (option_copied requirement) (option_copied sub_path, four)
unfolding read_body
read_body_from kind text one two three four slash name requirement sub_path a b c d =
    ap (λ t. behind_name kind (read_name kind t)) (maybe_rest _ one slash a)
    ∙ ap (λ (r : Read (List ℕ)). behind_name kind r) b
    ∙ ap (λ (p : Option (List ℕ) × List ℕ). behind_requirement kind name.now p) (maybe_is _ three requirement c)
    ∙ ap (λ (p : Option (List ℕ) × List ℕ). whole_package kind name.now (option_copied requirement) p)
    (maybe_is _ four sub_path d)

-- something is left
pub whole_package-more : (kind : PackageKind) (name rest : List ℕ) (o s : Option (List ℕ)) → (length rest == 0) ≡ false
    → whole_package kind name o (s, rest) ≡ None
whole_package-more kind name [] o s more = cc more
whole_package-more kind name (b ∷ rest) o s more = refl

-- nothing is left
pub whole_package-done : (kind : PackageKind) (name rest : List ℕ) (o s : Option (List ℕ)) → (length rest == 0) ≡ true
    → whole_package kind name o (s, rest)
    ≡ Some (record { kind = kind; name = name; requirement = o; sub_path = unless_empty s })
whole_package-done kind name [] o s done = refl
whole_package-done kind name (b ∷ rest) o s done = let none : length (b ∷ rest) ≡ 0 = eqb-true _ 0 done in
    absurd (omega arith)

-- ---- the body of a text

before_first-cons : (p : ℕ → Bool) (b : ℕ) (text : List ℕ) → p b ≡ false
    → before_first p (b ∷ text) ≡ b ∷ before_first p text
before_first-cons p b text passes =
    let more : 1 + position_or_len p text ≡ suc (position_or_len p text) = omega arith in rw (passes, more) refl

before_first-stop : (p : ℕ → Bool) (b : ℕ) (text : List ℕ) → p b ≡ true → before_first p (b ∷ text) ≡ []
before_first-stop p b text stops = rw stops refl

-- before the query of what stands before the fragment
pub before_both : (text : List ℕ)
    → before_first (λ b. b == 63) (before_first (λ b. b == 35) text) ≡ before_first ends_body text
before_both [] = refl
before_both (b ∷ text) = elim (cases_Bool (b == 35)) [
  | inl fragment ↦
      let ends : ends_body b ≡ true = or_right (b == 63) (b == 35) fragment in
      rw (before_first-stop (λ c. c == 35) b text fragment, before_first-stop ends_body b text ends) refl
  | inr passes ↦ elim (cases_Bool (b == 63)) [
    | inl query ↦
        let ends : ends_body b ≡ true = or_left (b == 63) (b == 35) query in
        rw (
          before_first-cons (λ c. c == 35) b text passes,
          before_first-stop (λ c. c == 63) b _ query,
          before_first-stop ends_body b text ends,
        ) refl
    | inr also ↦
        let on : ends_body b ≡ false = or_none (b == 63) (b == 35) also passes in
        rw (
          before_first-cons (λ c. c == 35) b text passes,
          before_first-cons (λ c. c == 63) b _ also,
          before_first-cons ends_body b text on,
          before_both text,
        ) refl
  ]
]

-- ---- the whole

-- the body of a reference that begins so is what was read
same_body : (text rest : List ℕ) (kind : PackageKind) (r : PackageRef) → text ≡ scheme_of kind ++ rest
    → IsReference text r
    → read_body kind (before_first ends_body rest) ≡ Some r
same_body text rest kind r whole of_r =
    let cut = one_scheme r.kind kind of_r.rest rest (sym of_r.whole ∙ whole) in
    let read = read_body-whole (before_first ends_body of_r.rest) r of_r.body in
    sym (ap (λ k. read_body k (before_first ends_body rest)) cut.0)
    ∙ sym (ap (λ t. read_body r.kind (before_first ends_body t)) cut.1) ∙ read

-- what was read of a body is a reference that begins so
reference_of : (text rest : List ℕ) (kind : PackageKind) (r : PackageRef) → text ≡ scheme_of kind ++ rest
    → read_body kind (before_first ends_body rest) ≡ Some r → IsReference text r
reference_of text rest kind r whole read =
    let is = read_body_is kind (before_first ends_body rest) r read in
    record { rest = rest; whole = whole ∙ sym (ap (λ k. scheme_of k ++ rest) is.0); body = is.1 }

pub answers_read : (text rest : List ℕ) (kind : PackageKind) (result : Result PackageRef PackageError)
    → text ≡ scheme_of kind ++ rest
    → IsAnswer (read_body kind (before_first ends_body rest)) result → AnswersReference text result
answers_read text rest kind (Ok r) whole read = record {
  read = reference_of text rest kind r whole read;
  only = λ s of_s. same_Some r s (sym read ∙ same_body text rest kind s whole of_s);
  refused = λ e. cc e;
}
answers_read text rest kind (Err NotAReference) whole read = record {
  read = tt;
  only = λ s of_s. none_is_not_some s (sym read ∙ same_body text rest kind s whole of_s);
  refused = λ e s of_s. absurd (none_is_not_some s (sym read ∙ same_body text rest kind s whole of_s));
}
answers_read text rest kind (Err OutOfMemory) whole read = record {
  read = tt;
  only = λ s of_s. refl;
  refused = λ e. cc e;
}

pub answers_none : (text : List ℕ) → SplitsScheme text None → AnswersReference text (Err NotAReference)
answers_none text other = record {
  read = tt;
  only = λ s of_s. absurd (other s.kind of_s.rest of_s.whole);
  refused = λ e s of_s. other s.kind of_s.rest of_s.whole;
}

-- where no name is read there is no package
pub refused_name : (kind : PackageKind) (text one : List ℕ) (slash : Option ℕ) (e : ParseError)
    → TellsMaybe (λ (c : ℕ). c) (maybe (read_char 47 text) text) (success one slash)
    → Tells bytes_of (read_name kind one) (refused (refusal_of e)) → IsAnswer (read_body kind text) (Err (fault_of e))
unfolding read_body
refused_name kind text one slash parse.Backtrace a b =
    ap (λ t. behind_name kind (read_name kind t)) (maybe_rest _ one slash a)
    ∙ ap (λ (r : Read (List ℕ)). behind_name kind r) b
refused_name kind text one slash (parse.Failure f) a b = absurd b
refused_name kind text one slash parse.OutOfMemory a b = absurd b

-- an error that is handed on answers as it does
pub handed_on : (read : Option PackageRef) (fault : PackageError) (result : Result PackageRef PackageError)
    → IsErrAnd result (λ e. e ≡ fault) → IsAnswer read (Err fault) → IsAnswer read result
handed_on read fault (Ok r) is answer = absurd is
handed_on read fault (Err e) is answer =
    let P : PackageError → Type 0 = λ x. IsAnswer read (Err x) in subst P (sym is) answer
