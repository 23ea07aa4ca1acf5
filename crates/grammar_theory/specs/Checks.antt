-- What a table of rows has to meet so that its reader reads each of its trees: tests of the table alone, each of which computes.
use Rattle.std.specs.Prelude.{◌≡◌, Bool, true, false, not, ◌&&◌, ◌||◌}
use Rattle.grammar_theory.specs.Productions.{Rhs, done, tok, punct, row, opt, many, alt, when_, where_, Production, refuse, make, choose, as_, pick, wrap}

module _ {Row : Type 0} (solid : Row → Bool) where
  -- the form takes a token, whatever is absent, where `solid` tells the rows that do
  abbrev pub takes : Rhs Row → Bool
  takes done = false
  takes (tok s may f) = true
  takes (punct k f) = true
  takes (row r f) = solid r || takes f
  takes (opt c g f) = takes f
  takes (many c g f) = takes f
  takes (alt t a b f) = (takes a && takes b) || takes f
  takes (when_ t f) = takes f
  takes (where_ t f) = takes f

  -- each optional part and each turn takes a token
  abbrev pub parts_take : Rhs Row → Bool
  parts_take done = true
  parts_take (tok s may f) = parts_take f
  parts_take (punct k f) = parts_take f
  parts_take (row r f) = parts_take f
  parts_take (opt c g f) = takes g && (parts_take g && parts_take f)
  parts_take (many c g f) = takes g && (parts_take g && parts_take f)
  parts_take (alt t a b f) = parts_take a && (parts_take b && parts_take f)
  parts_take (when_ t f) = parts_take f
  parts_take (where_ t f) = parts_take f

-- each alternative of the rule takes a token
abbrev pub rule_takes : {Row NodeKind : Type 0} → (Row → Bool) → Production Row NodeKind → Bool
rule_takes solid refuse = true
rule_takes solid (make l f) = takes solid f
rule_takes solid (choose t a b) = rule_takes solid a && rule_takes solid b
rule_takes solid (as_ w a) = rule_takes solid a
rule_takes solid (pick g a b) = rule_takes solid a && rule_takes solid b
rule_takes solid (wrap l a c f) = rule_takes solid a

-- each optional part and each turn of the rule takes a token
abbrev pub rule_parts_take : {Row NodeKind : Type 0} → (Row → Bool) → Production Row NodeKind → Bool
rule_parts_take solid refuse = true
rule_parts_take solid (make l f) = parts_take solid f
rule_parts_take solid (choose t a b) = rule_parts_take solid a && rule_parts_take solid b
rule_parts_take solid (as_ w a) = rule_parts_take solid a
rule_parts_take solid (pick g a b) = rule_parts_take solid a && rule_parts_take solid b
rule_parts_take solid (wrap l a c f) =
    rule_takes solid a && (rule_parts_take solid a && (takes solid f && parts_take solid f))

-- the rule has no turns behind an operand, so that its rows are its nodes
abbrev pub is_flat : {Row NodeKind : Type 0} → Production Row NodeKind → Bool
is_flat refuse = true
is_flat (make l f) = true
is_flat (choose t a b) = is_flat a && is_flat b
is_flat (as_ w a) = is_flat a
is_flat (pick g a b) = is_flat a && is_flat b
is_flat (wrap l a c f) = false

-- the rule makes nodes that lean of turns behind an operand alone
abbrev pub leans_by_turns : {Row NodeKind : Type 0} → (NodeKind → Bool) → Production Row NodeKind → Bool
leans_by_turns leans refuse = true
leans_by_turns leans (make l f) = not (leans l)
leans_by_turns leans (choose t a b) = leans_by_turns leans a && leans_by_turns leans b
leans_by_turns leans (as_ w a) = leans_by_turns leans a
leans_by_turns leans (pick g a b) = leans_by_turns leans a && leans_by_turns leans b
leans_by_turns leans (wrap l a c f) = leans_by_turns leans a

-- a table all of whose lists end: the rows that `solid` names take a token, and so does each optional part and each turn
pub record IsSteady {Row NodeKind : Type 0} (rule : Row → Production Row NodeKind) (solid : Row → Bool) : Type 0 where
  pub rows : (r : Row) → solid r ≡ true → rule_takes solid (rule r) ≡ true
  pub parts : (r : Row) → rule_parts_take solid (rule r) ≡ true
