-- A form or a rule carries to another one whose conditions are no harder: what fits the first fits the second, where
-- each row is read in a place for both.
use Rattle.std.specs.Prelude.{List, true}
use Rattle.std.proofs.Common.{◌≡◌, ℕ, zero, suc, ◌+◌, inl, inr}
use Rattle.es_token.specs.declared.token.TokenKind.{TokenKind}
use Rattle.std.specs.Prelude.{Bool}
use Rattle.grammar_theory.specs.Key.{Key, TokenTest}
use Rattle.grammar_theory.specs.Productions.{LeafKind, Predicate, Predict, Rhs, done, tok, punct, row, opt, many, alt, when_, where_, Production, refuse, make, choose, as_, pick, wrap}
use Rattle.grammar_theory.specs.Plain.{Plain, nil, turn}
use Rattle.grammar_theory.specs.Fits.{free, Turns, Wraps, Fits, IsBy}
use Rattle.es_grammar.specs.declared.rows.Row.{Row}
use Rattle.es_grammar.specs.declared.rows.NodeKind.{NodeKind}
use Rattle.es_grammar.specs.Embedding.{mapped_form, mapped_rule}
use Rattle.es_law_programs.specs.both_modes.Both.{both_row}

pub turns_carry : (K : List Key) (c : Predict) (One Two : Plain NodeKind → ℕ → ℕ → Type 0)
    → ((q : Plain NodeKind) (from mid : ℕ) → One q from mid → Two q from mid)
    → (ps : Plain NodeKind) (from to : ℕ) → Turns free K c One ps from to → Turns free K c Two ps from to
turns_carry K c One Two each nil from to fit = fit
turns_carry K c One Two each (turn q ps) from to fit =
    (fit.0, fit.1, each q from fit.0 fit.2, turns_carry K c One Two each ps fit.0 to fit.3)
turns_carry K c One Two each _ from to fit = absurd fit

wraps_carry : (K : List Key) (l : NodeKind) (c : Predict) (A B C D : Plain NodeKind → ℕ → ℕ → Type 0)
    → ((q : Plain NodeKind) (from mid : ℕ) → A q from mid → C q from mid)
    → ((q : Plain NodeKind) (from mid : ℕ) → B q from mid → D q from mid)
    → (n : ℕ) (p : Plain NodeKind) (from to : ℕ) → Wraps free K l c A B n p from to → Wraps free K l c C D n p from to
wraps_carry K l c A B C D one other zero p from to fit = one p from to fit
wraps_carry K l c A B C D one other (suc n) p from to fit = (
  fit.0,
  fit.1,
  fit.2,
  fit.3,
  wraps_carry K l c A B C D one other n fit.0 from fit.2 fit.4,
  fit.5,
  other fit.1 fit.2 to fit.6,
)

-- what fits the one form fits the other
pub record Carries (K : List Key) (Below : Row → Plain NodeKind → ℕ → ℕ → Type 0) (f g : Rhs Row) : Type 0 where
  pub fits : (p : Plain NodeKind) (from to : ℕ) → Fits free K Below f p from to → Fits free K Below g p from to

-- what is by the one rule is by the other
pub record RuleCarries (K : List Key) (Below : Row → Plain NodeKind → ℕ → ℕ → Type 0) (a b : Production Row NodeKind) :
    Type
    0 where
  pub by : (p : Plain NodeKind) (from to : ℕ) → IsBy free K Below a p from to → IsBy free K Below b p from to

module _ {K : List Key} {Below : Row → Plain NodeKind → ℕ → ℕ → Type 0} where
  -- ---- forms

  pub tok_in : {s : LeafKind} {may : TokenKind → Bool} {f g : Rhs Row} → Carries K Below f g
      → Carries K Below (tok s may f) (tok s may g)
  tok_in h = record { fits = λ p from to fit. (fit.0, fit.1, fit.2, h.fits fit.0 (from + 1) to fit.3) }

  pub punct_in : {k : TokenKind} {f g : Rhs Row} → Carries K Below f g → Carries K Below (punct k f) (punct k g)
  punct_in h = record { fits = λ p from to fit. (fit.0, fit.1, fit.2, h.fits fit.0 (from + 1) to fit.3) }

  pub opt_in : {c : Predict} {a b f g : Rhs Row} → Carries K Below a b → Carries K Below f g
      → Carries K Below (opt c a f) (opt c b g)
  opt_in part rest = record {
    fits = λ p from to fit. (
      fit.0,
      fit.1,
      fit.2,
      fit.3,
      elim fit.4 [
        | inl there ↦ inl (there.0, part.fits fit.0 from fit.2 there.1)
        | inr absent ↦ inr absent
      ],
      rest.fits fit.1 fit.2 to fit.5,
    );
  }

  pub many_in : {c : Predict} {a b f g : Rhs Row} → Carries K Below a b → Carries K Below f g
      → Carries K Below (many c a f) (many c b g)
  many_in {c} {a} {b} part rest = record {
    fits = λ p from to fit. (
      fit.0,
      fit.1,
      fit.2,
      fit.3,
      turns_carry K c (Fits free K Below a) (Fits free K Below b) part.fits fit.0 from fit.2 fit.4,
      rest.fits fit.1 fit.2 to fit.5,
    );
  }

  pub alt_in : {t : TokenTest} {a b c d f g : Rhs Row} → Carries K Below a c → Carries K Below b d → Carries K Below f g
      → Carries K Below (alt t a b f) (alt t c d g)
  alt_in one other rest = record {
    fits = λ p from to fit. (
      fit.0,
      fit.1,
      fit.2,
      fit.3,
      elim fit.4 [
        | inl this ↦ inl (this.0, one.fits fit.0 from fit.2 this.1)
        | inr that ↦ inr (that.0, other.fits fit.0 from fit.2 that.1)
      ],
      rest.fits fit.1 fit.2 to fit.5,
    );
  }

  pub when_in : {t : TokenTest} {f g : Rhs Row} → Carries K Below f g → Carries K Below (when_ t f) (when_ t g)
  when_in h = record { fits = λ p from to fit. (fit.0, h.fits p from to fit.1) }

  -- the condition of the second holds where that of the first does
  pub where_in : {t u : Predicate} {f g : Rhs Row} → ((at : ℕ) → t K at ≡ true → u K at ≡ true) → Carries K Below f g
      → Carries K Below (where_ t f) (where_ u g)
  where_in eases h = record { fits = λ p from to fit. (eases from fit.0, h.fits p from to fit.1) }

  -- ---- rules

  pub made : {l : NodeKind} {f g : Rhs Row} → Carries K Below f g → RuleCarries K Below (make l f) (make l g)
  made h = record { by = λ p from to by. (by.0, by.1, h.fits by.0 from to by.2) }

  pub chosen_in : {t : TokenTest} {a b c d : Production Row NodeKind} → RuleCarries K Below a c
      → RuleCarries K Below b d
      → RuleCarries K Below (choose t a b) (choose t c d)
  chosen_in one other = record {
    by = λ p from to by.
        elim by [
          | inl this ↦ inl (this.0, one.by p from to this.1)
          | inr that ↦ inr (that.0, other.by p from to that.1)
        ];
  }

  pub picked_in : {t : Predicate} {a b c d : Production Row NodeKind} → RuleCarries K Below a c
      → RuleCarries K Below b d
      → RuleCarries K Below (pick t a b) (pick t c d)
  picked_in one other = record {
    by = λ p from to by.
        elim by [
          | inl this ↦ inl (this.0, one.by p from to this.1)
          | inr that ↦ inr (that.0, other.by p from to that.1)
        ];
  }

  pub as_in : {w : NodeKind} {a b : Production Row NodeKind} → RuleCarries K Below a b
      → RuleCarries K Below (as_ w a) (as_ w b)
  as_in h = record { by = λ p from to by. (by.0, by.1, h.by by.0 from to by.2) }

  pub wrapped_in : {l : NodeKind} {a b : Production Row NodeKind} {c : Predict} {f g : Rhs Row}
      → RuleCarries K Below a b
      → Carries K Below f g → RuleCarries K Below (wrap l a c f) (wrap l b c g)
  wrapped_in {l} {a} {b} {c} {f} {g} operand parts = record {
    by = λ p from to by. (
      by.0,
      wraps_carry K l c (IsBy free K Below a) (Fits free K Below f) (IsBy free K Below b) (Fits free K Below g)
          operand.by parts.fits by.0 p from to by.1,
      by.2,
    );
  }

module _ (K : List Key) (Below : Row → Plain NodeKind → ℕ → ℕ → Type 0)
    (each : (r : Row) (q : Plain NodeKind) (from mid : ℕ) → Below r q from mid → Below (both_row r) q from mid) where
  -- a form carries to itself with its rows in a place for both
  form_mapped : (f : Rhs Row) → Carries K Below f (mapped_form both_row f)
  form_mapped done = record { fits = λ p from to fit. fit }
  form_mapped (tok s may f) = tok_in (form_mapped f)
  form_mapped (punct k f) = punct_in (form_mapped f)
  form_mapped (row r f) = record {
    fits = λ p from to fit. (
      fit.0,
      fit.1,
      fit.2,
      fit.3,
      each r fit.0 from fit.2 fit.4,
      (form_mapped f).fits fit.1 fit.2 to fit.5,
    );
  }
  form_mapped (opt c g f) = opt_in (form_mapped g) (form_mapped f)
  form_mapped (many c g f) = many_in (form_mapped g) (form_mapped f)
  form_mapped (alt t a b f) = alt_in (form_mapped a) (form_mapped b) (form_mapped f)
  form_mapped (when_ t f) = when_in (form_mapped f)
  form_mapped (where_ t f) = where_in (λ at h. h) (form_mapped f)

  rule_mapped : (a : Production Row NodeKind) → RuleCarries K Below a (mapped_rule both_row (λ l. l) a)
  rule_mapped refuse = record { by = λ p from to by. by }
  rule_mapped (make l f) = made (form_mapped f)
  rule_mapped (choose t a b) = chosen_in (rule_mapped a) (rule_mapped b)
  rule_mapped (as_ w a) = as_in (rule_mapped a)
  rule_mapped (pick g a b) = picked_in (rule_mapped a) (rule_mapped b)
  rule_mapped (wrap l a c f) = wrapped_in (rule_mapped a) (form_mapped f)

  -- the same, where a rule is given by its parts
  pub same_form : {f : Rhs Row} → Carries K Below f (mapped_form both_row f)
  same_form {f} = form_mapped f

  pub same_rule : {a : Production Row NodeKind} → RuleCarries K Below a (mapped_rule both_row (λ l. l) a)
  same_rule {a} = rule_mapped a

  -- a row, and then a form
  pub row_in : {r : Row} {f g : Rhs Row} → Carries K Below f g → Carries K Below (row r f) (row (both_row r) g)
  row_in {r} h = record {
    fits = λ p from to fit. (fit.0, fit.1, fit.2, fit.3, each r fit.0 from fit.2 fit.4, h.fits fit.1 fit.2 to fit.5);
  }
