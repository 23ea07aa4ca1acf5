-- What steps of the rules see of a draft.
use Rattle.std.specs.Prelude.{Bool, false, Option, Some, None}
use Rattle.es_token.specs.declared.token.Token.{Token}
use Rattle.es_token.specs.declared.token.TokenKind.{TokenKind}
use Rattle.grammar_theory.specs.Key.{same_kind}
use Rattle.dts_rules.specs.Rules.{State}
use Rattle.dts_draft.specs.declared.draft.Draft.{Draft}

-- the diagnostics, and how many names were made
abbrev pub state_of : Draft → State
state_of d = record { found = d.found.items; made = d.made }

-- a token that is there is of this kind
abbrev pub is_kind : TokenKind → Option Token → Bool
is_kind kind (Some t) = same_kind t.kind kind
is_kind kind None = false
