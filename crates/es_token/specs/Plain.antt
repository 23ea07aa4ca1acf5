-- What a token is.
use Rattle.std.specs.Prelude.{◌≡◌, refl, ℕ, zero, suc, Bool, Option, Some, None}
use Rattle.base.specs.declared.range.Range.{Range}
use Rattle.es_token.specs.declared.token.TokenKind.{TokenKind}

pub record Plain : Type 0 where
  pub kind : TokenKind
  -- its bytes in the text
  pub range : Range
  -- whether a line end stands between the token before and this one; never so for the first token
  pub line_before : Bool
  -- for a bracket, the number of the token that it matches
  pub partner : Option ℕ

-- a number that may be absent, as one number: 0 where it is, else one more than it
abbrev pub number_of : Option ℕ → ℕ
number_of None = 0
number_of (Some n) = suc n

abbrev pub partner_in : ℕ → Option ℕ
partner_in zero = None
partner_in (suc n) = Some n

-- no number is lost
pub partner_back : (n : ℕ) → number_of (partner_in n) ≡ n
partner_back zero = refl
partner_back (suc n) = refl
