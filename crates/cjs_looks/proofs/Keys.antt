-- The looks of members and calls, by numbers of tokens.
use Rattle.std.specs.Prelude.{ℕ, Bool, true, false, List, Option, Some, None, if◌then◌else◌}
use Rattle.std.proofs.Common.{◌≡◌, refl}
use Rattle.es_token.specs.declared.token.Token.{Token}
use Rattle.es_lowering.specs.Texts.{str_of}
use Rattle.cjs_facts.specs.Looks.{requires, other, required_by, passed, bracket, odd_key, odd_object, object_of}
use Rattle.cjs_looks.specs.Seen.{text_of}

-- a literal by itself is required once, and passed on after that
pub required_twice : (x : List ℕ) (o : Option Token) → required_by (required_by (text_of x o)) ≡ other
required_twice x None = refl
required_twice x (Some t) = go (str_of x t).lone
  where
    go : (b : Bool) → required_by (if b then other else requires (str_of x t).value) ≡ other
    go true = refl
    go false = refl

pub passed_text : (x : List ℕ) (o : Option Token) → passed (text_of x o) ≡ other
passed_text x None = refl
passed_text x (Some t) = refl

pub passed_required : (x : List ℕ) (o : Option Token) → passed (required_by (text_of x o)) ≡ required_by (text_of x o)
passed_required x None = refl
passed_required x (Some t) = go (str_of x t).lone
  where
    go : (b : Bool) → passed (if b then other else requires (str_of x t).value)
        ≡ (if b then other else requires (str_of x t).value)
    go true = refl
    go false = refl

-- what is required names no member
pub bracket_required : (x : List ℕ) (o : Option Token) → bracket (required_by (text_of x o)) ≡ odd_key
bracket_required x None = refl
bracket_required x (Some t) = go (str_of x t).lone
  where
    go : (b : Bool) → bracket (if b then other else requires (str_of x t).value) ≡ odd_key
    go true = refl
    go false = refl

-- neither is a string or a call taken as an object
pub object_text : (x : List ℕ) (o : Option Token) → object_of (text_of x o) ≡ odd_object
object_text x None = refl
object_text x (Some t) = refl

pub object_required : (x : List ℕ) (o : Option Token) → object_of (required_by (text_of x o)) ≡ odd_object
object_required x None = refl
object_required x (Some t) = go (str_of x t).lone
  where
    go : (b : Bool) → object_of (if b then other else requires (str_of x t).value) ≡ odd_object
    go true = refl
    go false = refl
