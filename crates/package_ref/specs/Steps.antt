-- Reading a reference from left to right: what the functions inside the crate promise each other.
use Rattle.std.specs.Prelude.{◌≡◌, ◌≢◌, Result, Ok, Err, IfOk, ℕ, ◌==◌, nat_lt, Bool, List, [], ◌∷◌, ◌++◌, take, drop, Option, Some, None, if◌then◌else◌}
use Rattle.std.specs.List.{prefix_len}
use Rattle.std.specs.Borrow.{Bor}
use Rattle.monch.specs.core_parsers.Outcome.{Outcome, success, refused, backtrack, failure, no_memory}
use Rattle.package_ref.specs.declared.reference.PackageKind.{PackageKind}
use Rattle.package_ref.specs.declared.reference.PackageKind.TheVariants.{Npm, Jsr}
use Rattle.package_ref.specs.declared.reference.PackageRef.{PackageRef}
use Rattle.package_ref.specs.declared.error.PackageError.{PackageError}
use Rattle.package_ref.specs.declared.error.PackageError.TheVariants.{NotAReference, OutOfMemory}
use Rattle.package_ref.specs.Reference.{is_no_slash, is_of_part, scheme_of, IsReference, Gives}

-- a value that was read at the front of a text, and what is left of the text
abbrev pub Read : Type 0 → Type 0
Read A = Option (A × List ℕ)

-- one reading, and then another on what is left
infixl 10 ◌>>=◌
abbrev pub ◌>>=◌ : {A B : Type 0} → Read A → (A → List ℕ → Read B) → Read B
(Some read) >>= f = f read.0 read.1
None >>= f = None

-- the first of two readings that is there
abbrev pub or_else : {A : Type 0} → Read A → Read A → Read A
or_else (Some read) other = Some read
or_else None other = other

-- a reading, or none with nothing taken from the text
abbrev pub maybe : {A : Type 0} → Read A → List ℕ → Option A × List ℕ
maybe (Some read) text = (Some read.0, read.1)
maybe None text = (None, text)

-- this character
abbrev pub read_char : ℕ → List ℕ → Read ℕ
read_char c [] = None
read_char c (b ∷ rest) = if b == c then Some (c, rest) else None

-- the run of this length, if it isn't empty
abbrev pub run_of : ℕ → List ℕ → Read (List ℕ)
run_of n text = if nat_lt 0 n then Some (take n text, drop n text) else None

-- the longest run of characters that pass the test, if it isn't empty
unfoldable pub read_run : (ℕ → Bool) → List ℕ → Read (List ℕ)
read_run test text = run_of (prefix_len test text) text

-- one or more characters other than `/` and `@`
abbrev pub read_part : List ℕ → Read (List ℕ)
read_part text = read_run is_of_part text

-- two readings, one after the other, and both values; and the value of the second alone
abbrev pub both : {A B : Type 0} → (List ℕ → Read A) → (List ℕ → Read B) → List ℕ → Read (A × B)
both first second text = first text >>= λ x rest. second rest >>= λ y rest. Some ((x, y), rest)

abbrev pub behind : {A B : Type 0} → (List ℕ → Read A) → (List ℕ → Read B) → List ℕ → Read B
behind first second text = first text >>= λ x rest. second rest

-- a scope and a part: `@`, a part, `/`, a part
abbrev pub read_scope_and_part : List ℕ → Read (List ℕ × List ℕ)
read_scope_and_part = both (behind (read_char 64) read_part) (behind (read_char 47) read_part)

-- the name of a scope and a part
unfoldable pub read_scoped : List ℕ → Read (List ℕ)
read_scoped text = read_scope_and_part text >>= λ name rest. Some (64 ∷ name.0 ++ 47 ∷ name.1, rest)

-- a name of this kind
abbrev pub read_name : PackageKind → List ℕ → Read (List ℕ)
read_name Npm text = or_else (read_scoped text) (read_part text)
read_name Jsr text = read_scoped text

-- `@` and one or more characters other than `/`
abbrev pub read_requirement : List ℕ → Read (List ℕ)
read_requirement = behind (read_char 64) (read_run is_no_slash)

-- `/` and anything
abbrev pub read_sub_path : List ℕ → Read (List ℕ)
read_sub_path = behind (read_char 47) (λ rest. Some (rest, []))

-- the text, if it isn't empty
abbrev pub unless_empty : Option (List ℕ) → Option (List ℕ)
unless_empty (Some (b ∷ text)) = Some (b ∷ text)
unless_empty (Some []) = None
unless_empty None = None

-- the package of a name, with what was read behind it, if nothing is left
abbrev pub whole_package : PackageKind → List ℕ → Option (List ℕ) → Option (List ℕ) × List ℕ → Option PackageRef
whole_package kind name requirement (sub_path, []) =
    Some (record { kind = kind; name = name; requirement = requirement; sub_path = unless_empty sub_path })
whole_package kind name requirement (sub_path, b ∷ rest) = None

abbrev pub behind_requirement : PackageKind → List ℕ → Option (List ℕ) × List ℕ → Option PackageRef
behind_requirement kind name (requirement, rest) =
    whole_package kind name requirement (maybe (read_sub_path rest) rest)

abbrev pub behind_name : PackageKind → Read (List ℕ) → Option PackageRef
behind_name kind (Some (name, rest)) = behind_requirement kind name (maybe (read_requirement rest) rest)
behind_name kind None = None

-- the package of a body
unfoldable pub read_body : PackageKind → List ℕ → Option PackageRef
read_body kind text = behind_name kind (read_name kind (maybe (read_char 47 text) text).1)

-- ---- what a combinator answers

-- it answers what is read, seen so, or backtracks where nothing is; it has no messages and takes no memory
abbrev pub Tells : {A B : Type 0} → (A → B) → Read B → Outcome A → Type 0
Tells view read (success rest value) = read ≡ Some (view value, rest)
Tells view read (refused backtrack) = read ≡ None
Tells view read (refused (failure input message)) = ⊥
Tells view read (refused no_memory) = ⊥

-- the same where nothing read is an answer too, so that it never refuses
abbrev pub TellsMaybe : {A B : Type 0} → (A → B) → Option B × List ℕ → Outcome (Option A) → Type 0
TellsMaybe view read (success rest (Some value)) = read ≡ (Some (view value), rest)
TellsMaybe view read (success rest None) = read ≡ (None, rest)
TellsMaybe view read (refused why) = ⊥

-- what a slice holds
abbrev pub bytes_of : Bor (List ℕ) → List ℕ
bytes_of text = text.now

-- ---- what a reader of a package answers

-- it answers the package that is read, or that none is, unless memory ran out
abbrev pub IsAnswer : Option PackageRef → Result PackageRef PackageError → Type 0
IsAnswer read (Ok r) = read ≡ Some r
IsAnswer read (Err NotAReference) = read ≡ None
IsAnswer read (Err OutOfMemory) = Unit {0}

-- the kind and what stands behind its scheme; no scheme of a kind stands there otherwise
abbrev pub SplitsScheme : List ℕ → Option (PackageKind × Bor (List ℕ)) → Type 0
SplitsScheme text (Some split) = text ≡ scheme_of split.0 ++ split.1.now
SplitsScheme text None = (kind : PackageKind) (rest : List ℕ) → text ≢ scheme_of kind ++ rest

-- a reader of a whole text answers the package that the grammar derives, or that it derives none, unless memory ran out
pub record AnswersReference (text : List ℕ) (result : Result PackageRef PackageError) : Type 0 where
  pub read : IfOk result (IsReference text)
  pub only : (r : PackageRef) → IsReference text r → Gives result r
  pub refused : result ≡ Err NotAReference → (r : PackageRef) → ¬ IsReference text r
