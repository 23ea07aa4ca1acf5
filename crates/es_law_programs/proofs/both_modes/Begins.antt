-- What may begin with `import`, and go on with a token that is neither `(` nor `.`, by the table alone.
use Rattle.std.specs.Prelude.{List, Bool, true, false, not, ◌||◌, ◌&&◌}
use Rattle.std.proofs.Common.{◌≡◌, ℕ, zero, suc, ◌+◌, refl, subst, inl, inr}
use Rattle.es_token.specs.declared.token.TokenKind.{TokenKind}
use Rattle.es_token.specs.declared.token.TokenKind.TheVariants as k
use Rattle.grammar_theory.specs.Key.{Key, seen, same_kind, has_kind, is}
use Rattle.grammar_theory.specs.Productions.{Predict, Rhs, done, tok, punct, row, opt, many, alt, when_, where_, Production, refuse, make, choose, as_, pick, wrap}
use Rattle.grammar_theory.specs.Plain.{Plain, nil, turn}
use Rattle.grammar_theory.specs.Fits.{free, Turns, Wraps, Fits, IsBy}
use Rattle.grammar_theory.proofs.OutLemmas.{clash}
use Rattle.es_grammar.specs.declared.types.rows.TypeRow.TheVariants as types
use Rattle.es_grammar.specs.declared.rows.Row.{Row}
use Rattle.es_grammar.specs.declared.rows.Row.TheVariants.{StatementRow, VariablesRow, UsingRow, PatternRow, ExpressionRow, TypesRow}
use Rattle.es_grammar.specs.declared.rows.NodeKind.{NodeKind}

-- ---- what may begin with `import`, and go on with a token that is neither `(` nor `.`

-- the rows that don't: those that a statement may begin with
abbrev pub row_may : Row → Bool
row_may (StatementRow c) = false
row_may (VariablesRow c) = false
row_may (UsingRow c) = false
row_may (PatternRow true c) = false
row_may (ExpressionRow c) = false
row_may (TypesRow types.TypeParametersRow) = false
row_may r = true

-- the token is neither `(` nor `.`
abbrev pub is_neither : TokenKind → Bool
is_neither kind = not (same_kind kind k.OpenParen || same_kind kind k.Dot)

-- what stands behind `import` may go on so
abbrev goes_so : Rhs Row → Bool
goes_so (punct kind f) = is_neither kind
goes_so f = true

abbrev form_may : Rhs Row → Bool
form_may done = true
form_may (tok s may f) = may k.ImportWord
form_may (punct kind f) = same_kind k.ImportWord kind && goes_so f
form_may (row r f) = row_may r
form_may (opt c g f) = form_may g || form_may f
form_may (many c g f) = form_may g || form_may f
form_may (alt t a b f) = form_may a || form_may b
form_may (when_ t f) = form_may f
form_may (where_ t f) = form_may f

abbrev pub rule_may : Production Row NodeKind → Bool
rule_may refuse = false
rule_may (make l f) = form_may f
rule_may (choose t a b) = rule_may a || rule_may b
rule_may (as_ w a) = rule_may a
rule_may (pick g a b) = rule_may a || rule_may b
rule_may (wrap l a c f) = rule_may a

left_holds : (a b : Bool) → a ≡ true → a || b ≡ true
left_holds true b e = refl
left_holds false b e = clash e

right_holds : (a b : Bool) → b ≡ true → a || b ≡ true
right_holds true b e = refl
right_holds false b e = e

both_held : (a b : Bool) → a ≡ true → b ≡ true → a && b ≡ true
both_held true b e h = h
both_held false b e h = clash e

-- ---- what is so begins so

-- here stands `import`, and behind it neither `(` nor `.`
pub record Opens (K : List Key) (at : ℕ) : Type 0 where
  pub word : (may : TokenKind → Bool) → has_kind may (seen K at) ≡ true → may k.ImportWord ≡ true
  pub behind : (kind : TokenKind) → is kind (seen K (at + 1)) ≡ true → is_neither kind ≡ true

module _ (K : List Key) (Below : Row → Plain NodeKind → ℕ → ℕ → Type 0)
    (each : (r : Row) (q : Plain NodeKind) (from mid : ℕ) → Below r q from mid → Opens K from → row_may r ≡ true) where
  goes_on : (f : Rhs Row) (p : Plain NodeKind) (from to : ℕ) → Fits free K Below f p (from + 1) to → Opens K from
      → goes_so f ≡ true
  goes_on done p from to fit opens = refl
  goes_on (tok s may f) p from to fit opens = refl
  goes_on (punct kind f) p from to fit opens = opens.behind kind fit.2
  goes_on (row r f) p from to fit opens = refl
  goes_on (opt c g f) p from to fit opens = refl
  goes_on (many c g f) p from to fit opens = refl
  goes_on (alt t a b f) p from to fit opens = refl
  goes_on (when_ t f) p from to fit opens = refl
  goes_on (where_ t f) p from to fit opens = refl

  moved : (from mid : ℕ) → from ≡ mid → Opens K from → Opens K mid
  moved from mid e opens = let P : ℕ → Type 0 = λ n. Opens K n in subst P e opens

  -- the turns of a list, or what stands behind it where there are none
  turns_begin : (c : Predict) (G F : Plain NodeKind → ℕ → ℕ → Type 0) (one other : Bool)
      → ((q : Plain NodeKind) (from mid : ℕ) → G q from mid → Opens K from → one ≡ true)
      → ((q : Plain NodeKind) (from mid : ℕ) → F q from mid → Opens K from → other ≡ true)
      → (q ps : Plain NodeKind) (from mid to : ℕ) → Turns free K c G q from mid → F ps mid to → Opens K from
      → one || other ≡ true
  turns_begin c G F one other first rest nil ps from mid to fit more opens =
      right_holds one other (rest ps mid to more (moved from mid fit.1 opens))
  turns_begin c G F one other first rest (turn q qs) ps from mid to fit more opens =
      left_holds one other (first q from fit.0 fit.2 opens)
  turns_begin c G F one other first rest _ ps from mid to fit more opens = absurd fit

  form_begins : (f : Rhs Row) (p : Plain NodeKind) (from to : ℕ) → Fits free K Below f p from to → Opens K from
      → form_may f ≡ true
  form_begins done p from to fit opens = refl
  form_begins (tok s may f) p from to fit opens = opens.word may fit.2
  form_begins (punct kind f) p from to fit opens =
      both_held (same_kind k.ImportWord kind) (goes_so f) (opens.word (λ x. same_kind x kind) fit.2)
      (goes_on f fit.0 from to fit.3 opens)
  form_begins (row r f) p from to fit opens = each r fit.0 from fit.2 fit.4 opens
  form_begins (opt c g f) p from to fit opens =
      elim fit.4 [
        | inl there ↦ left_holds (form_may g) (form_may f) (form_begins g fit.0 from fit.2 there.1 opens)
        | inr absent ↦ right_holds (form_may g) (form_may f)
            (form_begins f fit.1 fit.2 to fit.5 (moved from fit.2 absent.2 opens))
      ]
  form_begins (many c g f) p from to fit opens =
      turns_begin c (Fits free K Below g) (Fits free K Below f) (form_may g) (form_may f) (form_begins g)
      (form_begins f)
      fit.0 fit.1 from fit.2 to fit.4 fit.5 opens
  form_begins (alt t a b f) p from to fit opens =
      elim fit.4 [
        | inl one ↦ left_holds (form_may a) (form_may b) (form_begins a fit.0 from fit.2 one.1 opens)
        | inr other ↦ right_holds (form_may a) (form_may b) (form_begins b fit.0 from fit.2 other.1 opens)
      ]
  form_begins (when_ t f) p from to fit opens = form_begins f p from to fit.1 opens
  form_begins (where_ t f) p from to fit opens = form_begins f p from to fit.1 opens

  -- the operand stands first
  wraps_begin : (l : NodeKind) (c : Predict) (A B : Plain NodeKind → ℕ → ℕ → Type 0) (one : Bool)
      → ((q : Plain NodeKind) (from mid : ℕ) → A q from mid → Opens K from → one ≡ true)
      → (n : ℕ) (p : Plain NodeKind) (from to : ℕ) → Wraps free K l c A B n p from to → Opens K from → one ≡ true
  wraps_begin l c A B one operand zero p from to fit opens = operand p from to fit opens
  wraps_begin l c A B one operand (suc n) p from to fit opens =
      wraps_begin l c A B one operand n fit.0 from fit.2 fit.4 opens

  pub rule_begins : (a : Production Row NodeKind) (p : Plain NodeKind) (from to : ℕ) → IsBy free K Below a p from to
      → Opens K from → rule_may a ≡ true
  rule_begins refuse p from to by opens = absurd by
  rule_begins (make l f) p from to by opens = form_begins f by.0 from to by.2 opens
  rule_begins (choose t a b) p from to by opens =
      elim by [
        | inl one ↦ left_holds (rule_may a) (rule_may b) (rule_begins a p from to one.1 opens)
        | inr other ↦ right_holds (rule_may a) (rule_may b) (rule_begins b p from to other.1 opens)
      ]
  rule_begins (as_ w a) p from to by opens = rule_begins a by.0 from to by.2 opens
  rule_begins (pick g a b) p from to by opens =
      elim by [
        | inl one ↦ left_holds (rule_may a) (rule_may b) (rule_begins a p from to one.1 opens)
        | inr other ↦ right_holds (rule_may a) (rule_may b) (rule_begins b p from to other.1 opens)
      ]
  rule_begins (wrap l a c f) p from to by opens =
      wraps_begin l c (IsBy free K Below a) (Fits free K Below f) (rule_may a) (rule_begins a) by.0 p from to by.1 opens
