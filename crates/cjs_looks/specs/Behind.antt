-- What no call after it defines or stars by: what a call looks like, and a member of it.
use Rattle.std.specs.Prelude.{◌≡◌, false}
use Rattle.cjs_facts.specs.Looks.{Look, odd_object, object_of}
use Rattle.cjs_facts.specs.Exports.{is_define, is_star}

-- a member of it is one of no name, and as a callee it is neither `Object.defineProperty` nor `__exportStar`
pub record IsBehind (l : Look) : Type 0 where
  pub object : object_of l ≡ odd_object
  pub defines : is_define l ≡ false
  pub stars : is_star l ≡ false
