-- Type arguments and type parameters end with a `>`: where none follows, none begin.
use Rattle.std.specs.Prelude.{List, Option, Some, None, Bool, false, true, ltb, length}
use Rattle.std.proofs.Common.{◌≡◌, ℕ, zero, suc, ◌+◌, ◌-◌, ◌<◌, ◌≤◌, refl, sym, subst, ◌∙◌, ltb-true, ltb-false, inl, inr, arith}
use Rattle.es_token.specs.declared.token.Token.{Token}
use Rattle.es_token.specs.declared.token.TokenKind.{TokenKind}
use Rattle.es_token.specs.declared.token.TokenKind.TheVariants as k
use Rattle.grammar_theory.specs.Key.{Key, keys_of, seen, is}
use Rattle.grammar_theory.specs.Productions.{Rhs, done, tok, punct, row, opt, many, alt, when_, where_, Production, refuse, make, choose, as_, pick, wrap}
use Rattle.grammar_theory.specs.Plain.{Plain, plain}
use Rattle.grammar_theory.specs.Fits.{Reading, chosen, Fits, IsBy, Under, most_nodes}
use Rattle.grammar_theory.specs.Reader.{Out, nothing, gives, read_row}
use Rattle.grammar_theory.proofs.OutLemmas.{clash}
use Rattle.grammar_theory.proofs.Progress.{under_ahead}
use Rattle.grammar_theory.proofs.ReaderLemmas.{row_fits}
use Rattle.es_grammar.specs.declared.types.rows.TypeRow.{TypeRow}
use Rattle.es_grammar.specs.declared.types.rows.TypeRow.TheVariants.{ArgumentsRow, TypeParametersRow}
use Rattle.es_grammar.specs.types.TypeRows.{NodeKind}
use Rattle.es_grammar.specs.types.TypeNames.{further_arguments, arguments, type_parameter, listed_parameters, type_parameters}
use Rattle.es_grammar.specs.types.TypeTable.{type_rule}
use Rattle.es_lookahead.specs.declared.ends.End.{End}
use Rattle.es_lookahead.specs.declared.ends.Angle.{Angle}
use Rattle.es_lookahead.specs.Ends.{end_of, row_end, IsRight}
use Rattle.es_lookahead.proofs.TokenLemmas.{look_past}
use Rattle.es_type_rules.proofs.ends_lemmas.Claims.{solid, table_told}

-- the last token of a form is this one; `B`: the token before the form is
Closes : {Row : Type 0} → TokenKind → Type 0 → Rhs Row → Type 0
Closes kind B done = B
Closes kind B (tok s may f) = Closes kind ⊥ f
Closes kind B (punct q f) = Closes kind (q ≡ kind) f
Closes kind B (row r f) = Closes kind ⊥ f
Closes kind B (opt c g f) = Closes kind ⊥ f
Closes kind B (many c g f) = Closes kind ⊥ f
Closes kind B (alt t a b f) = Closes kind ⊥ f
Closes kind B (when_ t f) = Closes kind B f
Closes kind B (where_ t f) = Closes kind B f

-- that of each form of a rule is
IsClosing : {Row NodeKind : Type 0} → TokenKind → Production Row NodeKind → Type 0
IsClosing kind refuse = Unit {0}
IsClosing kind (make l f) = Closes kind ⊥ f
IsClosing kind (choose t a b) = IsClosing kind a × IsClosing kind b
IsClosing kind (as_ w a) = IsClosing kind a
IsClosing kind (pick g a b) = IsClosing kind a × IsClosing kind b
IsClosing kind (wrap l a c f) = ⊥

-- the token before a place is this one
abbrev IsBehind : TokenKind → List Key → ℕ → Type 0
IsBehind kind K at = (last : ℕ) × (at ≡ last + 1) × (is kind (seen K last) ≡ true)

module _ {Row NodeKind : Type 0} (kind : TokenKind) (h : Reading) (K : List Key)
    (Below : Row → Plain NodeKind → ℕ → ℕ → Type 0) where
  form_closed : (B : Type 0) (f : Rhs Row) (p : Plain NodeKind) (from to : ℕ) → (B → IsBehind kind K from)
      → Closes kind B f → Fits h K Below f p from to → IsBehind kind K to
  unfolding Closes
  form_closed B done p from to before c fit = subst (IsBehind kind K) fit.1 (before c)
  form_closed B (tok s may f) p from to before c fit = form_closed ⊥ f fit.0 (from + 1) to (λ n. absurd n) c fit.3
  form_closed B (punct q f) p from to before c fit =
      form_closed (q ≡ kind) f fit.0 (from + 1) to
      (λ same. (from, refl, subst (λ (j : TokenKind). is j (seen K from) ≡ true) same fit.2)) c fit.3
  form_closed B (row r f) p from to before c fit = form_closed ⊥ f fit.1 fit.2 to (λ n. absurd n) c fit.5
  form_closed B (opt o g f) p from to before c fit = form_closed ⊥ f fit.1 fit.2 to (λ n. absurd n) c fit.5
  form_closed B (many o g f) p from to before c fit = form_closed ⊥ f fit.1 fit.2 to (λ n. absurd n) c fit.5
  form_closed B (alt t a b f) p from to before c fit = form_closed ⊥ f fit.1 fit.2 to (λ n. absurd n) c fit.5
  form_closed B (when_ t f) p from to before c fit = form_closed B f p from to before c fit.1
  form_closed B (where_ t f) p from to before c fit = form_closed B f p from to before c fit.1

  rule_closed : (a : Production Row NodeKind) (p : Plain NodeKind) (from to : ℕ) → IsClosing kind a
      → IsBy h K Below a p from to → IsBehind kind K to
  unfolding Closes IsClosing
  rule_closed refuse p from to c by = absurd by
  rule_closed (make l f) p from to c by = form_closed ⊥ f by.0 from to (λ n. absurd n) c by.2
  rule_closed (choose t a b) p from to c by = elim by [
    | inl one ↦ rule_closed a p from to c.0 one.1
    | inr other ↦ rule_closed b p from to c.1 other.1
  ]
  rule_closed (as_ w a) p from to c by = rule_closed a by.0 from to c by.2
  rule_closed (pick g a b) p from to c by = elim by [
    | inl one ↦ rule_closed a p from to c.0 one.1
    | inr other ↦ rule_closed b p from to c.1 other.1
  ]
  rule_closed (wrap l a o f) p from to c by = absurd c

row_closed : (K : List Key) (room : ℕ) (r : TypeRow) (p : Plain NodeKind) (from to : ℕ)
    → IsClosing k.Greater (type_rule r)
    → Under chosen K type_rule room r p from to → IsBehind k.Greater K to
unfolding Under
row_closed K zero r p from to c under = absurd under
row_closed K (suc room) r p from to c under =
    rule_closed k.Greater chosen K (Under chosen K type_rule room) (type_rule r) p from to c under

arguments_close : IsClosing k.Greater (type_rule ArgumentsRow)
unfolding type_rule arguments further_arguments IsClosing Closes
arguments_close = (refl, refl)

parameters_close : IsClosing k.Greater (type_rule TypeParametersRow)
unfolding type_rule type_parameters listed_parameters type_parameter IsClosing Closes
parameters_close = refl

module _ (K : List Key) (first : ℕ) (none : (q : ℕ) → first ≤ q → is k.Greater (seen K q) ≡ false) where
  no_end : (r : TypeRow) (at : ℕ) → IsClosing k.Greater (type_rule r) → solid r ≡ true → first ≤ at
      → row_end r K at ≡ None
  unfolding row_end
  no_end r at c takes behind = go (read_row plain K type_rule most_nodes r at) refl
    where
      go : (o : Out (Plain NodeKind)) → read_row plain K type_rule most_nodes r at ≡ o → end_of o ≡ None
      go nothing e = refl
      go (gives p to) e =
          let under = row_fits K type_rule most_nodes r at p to e in
          let forward : at < to =
          (under_ahead chosen K type_rule solid table_told.steady most_nodes r p at to under).strictly takes in
          let last = row_closed K most_nodes r p at to c under in
          let place : to ≡ last.0 + 1 = last.1 in
          let past : first ≤ last.0 = omega (arith, place) in
          clash (sym (none last.0 past) ∙ last.2)

  pub none_right : (to : ℕ) → IsRight K (record { first = first; at = to; arguments = None; parameters = None })
  none_right to q behind before = (
    no_end ArgumentsRow q arguments_close refl behind,
    no_end TypeParametersRow q parameters_close refl behind,
  )

-- what is known of one place
pub right_at : (K : List Key) (at : ℕ) (arguments parameters : Option End) → row_end ArgumentsRow K at ≡ arguments
    → row_end TypeParametersRow K at ≡ parameters
    → IsRight K (record { first = at; at = at; arguments = arguments; parameters = parameters })
right_at K at arguments parameters one other q behind before =
    let same : at ≡ q = omega arith in
    subst (λ n. (row_end ArgumentsRow K n ≡ arguments) × (row_end TypeParametersRow K n ≡ parameters)) same (one, other)

-- ---- looking for the last `>`

-- no `>` stands behind the last token
pub none_past : (ts : List Token) (left : ℕ) → left ≡ length ts → (q : ℕ) → left ≤ q
    → is k.Greater (seen (keys_of ts) q) ≡ false
none_past ts left e q behind = let past : length ts ≤ q = omega (arith, e) in sym (look_past (is k.Greater) ts q past)

-- one more token was looked at
pub none_more : (K : List Key) (left : ℕ) → 0 < left → ((q : ℕ) → left ≤ q → is k.Greater (seen K q) ≡ false)
    → is k.Greater (seen K (left - 1)) ≡ false
    → (q : ℕ) → left - 1 ≤ q → is k.Greater (seen K q) ≡ false
none_more K left some none here q behind = go (ltb q left) refl
  where
    go : (b : Bool) → ltb q left ≡ b → is k.Greater (seen K q) ≡ false
    go true e =
        let less : q < left = ltb-true q left e in
        let same : left - 1 ≡ q = omega arith in
        subst (λ n. is k.Greater (seen K n) ≡ false) same here
    go false e = none q (ltb-false q left e)
