-- Partners among tokens.
use Rattle.std.specs.Prelude.{◌≡◌, ℕ, ◌<◌, List, Some, slice_get}
use Rattle.es_lexer.specs.declared.bracket.Role.{Role}
use Rattle.es_lexer.specs.declared.bracket.Role.TheVariants.{Opens, Closes, Continues, Plain}
use Rattle.es_token.specs.declared.token.Token.{Token}
use Rattle.es_lexer.specs.Brackets.{role_of}

-- a token of this role has a bracket open behind it: it opens one, or goes on in a template
abbrev pub Begins : Role → Type 0
Begins (Opens kind) = Unit {0}
Begins (Closes kind) = ⊥
Begins Continues = Unit {0}
Begins Plain = ⊥

-- the token of this number stands before that one, begins a bracket, and has that one for its partner
pub record IsBegun (ts : List Token) (number closer : ℕ) : Type 0 where
  pub found : Token
  pub here : slice_get ts number ≡ Some found
  pub before : number < closer
  pub begins : Begins (role_of found.kind)
  pub partner : found.partner ≡ Some closer
