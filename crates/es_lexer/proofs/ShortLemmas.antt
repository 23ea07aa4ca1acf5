-- What punctuators that their first bytes tell do to the brackets around them.
use Rattle.std.proofs.Common.{◌≡◌, ℕ, ◌≤◌, ◌<◌, List, [], ◌∷◌, length, get_or, Option, Some, None, IfSome, refl, arith}
use Rattle.es_lexer.specs.declared.bracket.BracketKind.{BracketKind}
use Rattle.es_lexer.specs.declared.bracket.BracketKind.TheVariants.{Round, Square, Curly, Template}
use Rattle.es_lexer.specs.declared.short.Stop.TheVariants as stop
use Rattle.es_lexer.specs.declared.short.Short.{Short}
use Rattle.es_lexer.specs.declared.short.Short.TheVariants as short
use Rattle.es_lexer.specs.declared.goal.Goal.{Goal}
use Rattle.es_lexer.specs.Brackets.{role_of}
use Rattle.es_lexer.specs.Look.{look_at}
use Rattle.es_lexer.specs.Short.{stop_kind, opener_kind, closer_kind, short_kind, short_role, short_found, short_of, short_at}

pub role_is : (s : Short) → role_of (short_kind s) ≡ short_role s
unfolding role_of stop_kind opener_kind closer_kind short_kind short_role
role_is (short.Stops stop.Semicolon) = refl
role_is (short.Stops stop.Comma) = refl
role_is (short.Stops stop.Colon) = refl
role_is short.Dot = refl
role_is (short.Opens Round) = refl
role_is (short.Opens Square) = refl
role_is (short.Opens Curly) = refl
role_is (short.Opens Template) = refl
role_is (short.Closes Round) = refl
role_is (short.Closes Square) = refl
role_is (short.Closes Curly) = refl
role_is (short.Closes Template) = refl

-- what is found before any third byte is found before this one
pub found_before : (goal : Goal) (text : List ℕ) (r : Option Short) → 3 ≤ length text
    → IfSome r (λ (s : Short). (at d : ℕ) (rest : List ℕ)
    → look_at goal at (get_or text 0 0 ∷ get_or text 1 0 ∷ d ∷ rest) ≡ short_found at s)
    → IfSome r (λ (s : Short). (at : ℕ) → look_at goal at text ≡ short_found at s)
found_before goal [] r l h = absurd (omega arith)
found_before goal (a ∷ []) r l h = absurd (omega arith)
found_before goal (a ∷ b ∷ []) r l h = absurd (omega arith)
found_before goal (a ∷ b ∷ d ∷ rest) None l h = h
found_before goal (a ∷ b ∷ d ∷ rest) (Some s) l h = λ at. h at d rest

-- a text of fewer bytes has none
pub none_at : (bracket : Option BracketKind) (text : List ℕ) → length text < 3 → None ≡ short_at bracket text
unfolding short_at
none_at bracket [] l = refl
none_at bracket (a ∷ []) l = refl
none_at bracket (a ∷ b ∷ []) l = refl
none_at bracket (a ∷ b ∷ d ∷ rest) l = absurd (omega arith)

-- another has what its first two bytes tell
pub short_told : (bracket : Option BracketKind) (text : List ℕ) (r : Option Short) → 3 ≤ length text
    → r ≡ short_of bracket (get_or text 0 0) (get_or text 1 0) → r ≡ short_at bracket text
unfolding short_at
short_told bracket [] r l h = absurd (omega arith)
short_told bracket (a ∷ []) r l h = absurd (omega arith)
short_told bracket (a ∷ b ∷ []) r l h = absurd (omega arith)
short_told bracket (a ∷ b ∷ d ∷ rest) r l h = h
