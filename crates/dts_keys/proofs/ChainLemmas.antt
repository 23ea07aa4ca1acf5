-- Names with dots as keys.
use Rattle.std.specs.Prelude.{ℕ, ◌+◌, Bool, true, false, List, [], ◌∷◌, ◌++◌, Option, Some, None, option_map, if◌then◌else◌, length, map, slice_get, take}
use Rattle.std.proofs.Common.{◌≡◌, refl, sym, ap, subst, ◌∙◌}
use Rattle.std.proofs.lemmas.Bool.{true≢false}
use Rattle.base.specs.declared.range.Range.{Range}
use Rattle.es_token.specs.declared.token.Token.{Token}
use Rattle.es_token.specs.declared.token.TokenKind.{TokenKind}
use Rattle.es_token.specs.declared.token.TokenKind.TheVariants as k
use Rattle.grammar_theory.specs.Key.{same_kind}
use Rattle.es_ast.specs.declared.ts.leaf.Ident.{Ident}
use Rattle.es_ast.specs.declared.ts.leaf.TsEntityName.{TsEntityName}
use Rattle.es_ast.specs.declared.ts.leaf.TsKey.{TsKey}
use Rattle.es_ast.specs.declared.ts.leaf.TsKey.TheVariants as vKey
use Rattle.es_ast.specs.declared.ts.leaf.TsThisTypeOrIdent.{TsThisTypeOrIdent}
use Rattle.es_ast.specs.declared.ts.leaf.TsThisTypeOrIdent.TheVariants as vThis
use Rattle.es_ast.specs.declared.leaf.Lit.TheVariants as vLit
use Rattle.es_ast.specs.declared.ast.Expr.{Expr}
use Rattle.es_ast.specs.declared.ast.Expr.TheVariants as vExpr
use Rattle.es_ast.specs.declared.ast.ClassMember.TheOpen.{Expr-F}
use Rattle.es_lowering.specs.Value.{Value, token, given, turns, post_at}
use Rattle.es_lowering.specs.Texts.{span_of, end_before, ident_of, token_of}
use Rattle.es_lowering.specs.Expressions.{Post, chained, word_of}
use Rattle.es_lowering.specs.Lowering.{packed}
use Rattle.es_grammar.specs.declared.rows.NodeKind.{NodeKind}
use Rattle.es_syntax.specs.declared.entry.Entry.{Entry}
use Rattle.es_syntax.specs.declared.entry.Lean.{Lean}
use Rattle.es_syntax.specs.declared.entry.What.{What}
use Rattle.es_syntax.specs.declared.entry.What.TheVariants as what
use Rattle.es_syntax.specs.declared.cursor.Item.{Item}
use Rattle.es_syntax.specs.Held.{held, made, parts_of, valued}
use Rattle.es_syntax.specs.Roles.{entity_in, expr_in, type_key_in}
use Rattle.es_syntax.specs.Views.{is_one_of}
use Rattle.es_changed.specs.declared.entry.Change.TheVariants as change
use Rattle.es_changed.specs.declared.entry.Form.{Form}
use Rattle.es_changed.specs.declared.entry.Form.TheVariants as form
use Rattle.es_changed.specs.declared.entry.ChangedEntry.{ChangedEntry}
use Rattle.es_changed.specs.Formed.{formed, left_of, each_part, nowhere}
use Rattle.es_changed.specs.Shape.{closed, opened, Writes}
use Rattle.es_changed.proofs.Written.{nothing_written, gone_written, both_written, form_written, taken_open}
use Rattle.es_view_expressions.specs.call.Call as call
use Rattle.es_view_expressions.specs.expr.Primary as primary
use Rattle.dts_rules.specs.Rules.{Env, Shown, entity_key}
use Rattle.dts_rules.specs.Programs.{shown_expr}
use Rattle.dts_draft.specs.Drafts.{is_kind}
use Rattle.dts_draft.specs.Written.{IfThere, Gives}
use Rattle.dts_draft.proofs.There.{lifted}
use Rattle.dts_draft.proofs.Lists.{read_each}
use Rattle.dts_leaves.proofs.Shown.{shown_by}
use Rattle.dts_leaves.proofs.NumberLemmas.{token_span}
use Rattle.dts_leaves.proofs.Words.{kind_of}
use Rattle.dts_keys.specs.Keys.{entity_from, IsInBrackets, IsName, IsNone, IsAny, Chained, beginning, path_form, posts_of, name_in}
use Rattle.dts_keys.proofs.Claims.{node_entity, lean_entity}
use Rattle.dts_keys.proofs.PostLemmas.{span_end}

module _ (env : Env) (x : List ℕ) (ts : List Token) where
  -- ---- a path that is written, read again
  path_read : (this : Bool) (from to at : ℕ) (t : Token) (values : List Value) (names : List Ident)
      → slice_get ts at ≡ Some t → map (name_in env x ts) values ≡ map Some names
      → entity_in (formed x ts (path_form this) from to (packed (token at ∷ values)))
      ≡ Some (entity_from (left_of x ts this t) names (span_of ts from to))
  path_read true from to at t values names is e =
      ap (λ o. given o (λ (t : Token). given (each_part (name_in env x ts) (packed values)) (λ rest.
      Some (entity_from (left_of x ts true t) rest (span_of ts from to))))) is
      ∙ ap (λ o. given o (λ rest. Some (entity_from (left_of x ts true t) rest (span_of ts from to))))
      (read_each (name_in env x ts) values names e)
  path_read false from to at t values names is e =
      ap (λ o. given o (λ (t : Token). given (each_part (name_in env x ts) (packed values)) (λ rest.
      Some (entity_from (left_of x ts false t) rest (span_of ts from to))))) is
      ∙ ap (λ o. given o (λ rest. Some (entity_from (left_of x ts false t) rest (span_of ts from to))))
      (read_each (name_in env x ts) values names e)

  key_read : (v : Value) (name : TsEntityName) → entity_in v ≡ Some name
      → type_key_in (formed x ts form.EntityKey 0 0 (packed (v ∷ []))) ≡ Some (vKey.Entity name nowhere)
  key_read v name e = ap (option_map (λ name. vKey.Entity name nowhere)) e

  -- the key that a chain is which has these names
  its_key : (e : Expr) (left : TsThisTypeOrIdent) (names : List Ident) (from to : ℕ)
      → IsName env x ts left names (record { start = (span_of ts from to).start; end = end_before ts to }) e
      → (shown_expr env e).type_key ≡ option_map (entity_key env) (shown_expr env e).entity
      → (shown_expr env e).type_key
      ≡ Some (vKey.Entity (entity_from left names (span_of ts from to)) nowhere)
  its_key e left names from to is key =
      key ∙ (ap (option_map (entity_key env)) is
      ∙ ap (λ (n : ℕ). Some
      (vKey.Entity (entity_from left names (record { start = (span_of ts from to).start; end = n })) nowhere))
      (sym (span_end ts from to)))

  path_by : {begun past inner named mid closed_ new : List ChangedEntry} {place path to at : ℕ}
      {o : Option (List Post)} (old : List ChangedEntry) (from : ℕ) (this : Bool) → begun ≡ old ++ opened
      → place ≡ length old → Writes x ts begun past []
      → inner ≡ past ++ opened → path ≡ length past → Writes x ts inner named (token at ∷ [])
      → IfThere (Chained env x ts true named mid (Some to)) o
      → closed_ ≡ closed (change.Form (path_form this)) from to path mid
      → new ≡ closed (change.Form form.EntityKey) 0 0 place closed_
      → IfThere (λ (t : Token). (base : Expr) (span : Range) → IsName env x ts (left_of x ts this t) [] span base
      → IfThere (λ posts. IsInBrackets env x ts old new true (chained (span_of ts from to).start base posts)) o)
      (slice_get ts at)
  path_by {begun = begun} {past = past} {inner = inner} {named = named} {mid = mid} {closed_ = closed_} {new = new}
      {place = place} {path = path} {to = to} {at = at} {o = o} old from this eo ep
      gone eb ei w c wp wk =
      go (slice_get ts at) refl
    where
      by : (t : Token) → slice_get ts at ≡ Some t → (base : Expr) (span : Range)
          → IsName env x ts (left_of x ts this t) [] span base → (posts : List Post)
          → Chained env x ts true named mid (Some to) posts
          → IsInBrackets env x ts old new true (chained (span_of ts from to).start base posts)
      by t is base span h posts c =
          let inside : Value = formed x ts (path_form this) from to (packed (token at ∷ c.puts.values)) in
          let name : TsEntityName = entity_from (left_of x ts this t) c.names (span_of ts from to) in
          subst (Gives x ts type_key_in old new true)
          (sym (its_key (chained (span_of ts from to).start base posts) (left_of x ts this t) c.names from to
          (c.is (span_of ts from to).start (left_of x ts this t) [] span base h)
          (c.key (span_of ts from to).start base))) (
            refl,
            record {
              value = formed x ts form.EntityKey 0 0 (packed (inside ∷ []));
              writes =
                  form_written x ts form.EntityKey 0 0 place old begun closed_ new (inside ∷ []) eo ep
                  (both_written x ts begun past closed_ [] (inside ∷ []) gone
                  (form_written x ts (path_form this) from to path past inner mid closed_ (token at ∷ c.puts.values) eb
                  ei
                  (both_written x ts inner named mid (token at ∷ []) c.puts.values w c.puts.writes) wp)) wk;
              is = key_read inside name (path_read this from to at t c.puts.values c.names is c.puts.are);
            },
          )

      go : (s : Option Token) → slice_get ts at ≡ s
          → IfThere (λ (t : Token). (base : Expr) (span : Range) → IsName env x ts (left_of x ts this t) [] span base
          → IfThere (λ posts. IsInBrackets env x ts old new true (chained (span_of ts from to).start base posts)) o) s
      go None is = record { is = tt }
      go (Some t) is = record { is = λ base span h. lifted (λ posts c. by t is base span h posts c) c }

  pub path_written : {begun past inner named mid closed_ new : List ChangedEntry} {place path end to at : ℕ} {f : Form}
      {o : Option (List Post)} (old : List ChangedEntry) (from : ℕ) (this : Bool) → end ≡ to → path_form this ≡ f
      → begun ≡ old ++ opened
      → place ≡ length old → Writes x ts begun past [] → inner ≡ past ++ opened → path ≡ length past
      → Writes x ts inner named (token at ∷ []) → IfThere (Chained env x ts true named mid (Some end)) o
      → closed_ ≡ closed (change.Form f) from end path mid
      → new ≡ closed (change.Form form.EntityKey) 0 0 place closed_
      → IfThere (λ (t : Token). (base : Expr) (span : Range) → IsName env x ts (left_of x ts this t) [] span base
      → IfThere (λ posts. IsInBrackets env x ts old new true (chained (span_of ts from to).start base posts)) o)
      (slice_get ts at)
  path_written {begun = begun} {past = past} {inner = inner} {named = named} {mid = mid} {closed_ = closed_}
      {new = new} {place = place} {path = path} {end = end} {to = to} {at = at} {f = f} {o = o} old from this et ef eo
      ep gone eb ei w c wp wk =
      subst (λ (n : ℕ). IfThere (λ (t : Token). (base : Expr) (span : Range)
      → IsName env x ts (left_of x ts this t) [] span base
      → IfThere (λ posts. IsInBrackets env x ts old new true (chained (span_of ts from n).start base posts)) o)
      (slice_get ts at)) et
      (path_by old from this eo ep gone eb ei w c
      (subst (λ (g : Form). closed_ ≡ closed (change.Form g) from end path mid) (sym ef) wp) wk)

  -- ---- a chain that is no name
  none_given : (old begun mid new : List ChangedEntry) (vs : List Value) (place : ℕ) (e : Expr) → begun ≡ old ++ opened
      → place ≡ length old → Writes x ts begun mid vs → new ≡ take place mid → IsNone env x ts e
      → (shown_expr env e).type_key ≡ option_map (entity_key env) (shown_expr env e).entity
      → IsInBrackets env x ts old new false e
  none_given old begun mid new vs place e eo ep w t n key =
      subst (Gives x ts type_key_in old new false) (sym (key ∙ ap (option_map (entity_key env)) n)) (
        refl,
        subst (λ (es : List ChangedEntry). Writes x ts old es [])
            (sym (t ∙ taken_open x ts place old begun mid vs eo ep w))
            (nothing_written x ts old),
      )

  pub path_none : {begun past inner named mid new : List ChangedEntry} {place at : ℕ} {o : Option (List Post)}
      (old : List ChangedEntry) (this : Bool) (start : ℕ) → begun ≡ old ++ opened → place ≡ length old
      → Writes x ts begun past []
      → inner ≡ past ++ opened → Writes x ts inner named (token at ∷ [])
      → IfThere (Chained env x ts true named mid None) o → new ≡ take place mid
      → IfThere (λ (t : Token). (base : Expr) (span : Range) → IsName env x ts (left_of x ts this t) [] span base
      → IfThere (λ posts. IsInBrackets env x ts old new false (chained start base posts)) o) (slice_get ts at)
  path_none {begun = begun} {past = past} {inner = inner} {named = named} {mid = mid} {new = new} {place = place}
      {at = at} {o = o} old this start eo ep gone eb w c t =
      go (slice_get ts at)
    where
      go : (s : Option Token) → IfThere (λ (t : Token). (base : Expr) (span : Range)
          → IsName env x ts (left_of x ts this t) [] span base
          → IfThere (λ posts. IsInBrackets env x ts old new false (chained start base posts)) o) s
      go None = record { is = tt }
      go (Some tok) = record {
        is = λ base span h. lifted (λ posts c.
            none_given old begun mid new (token at ∷ c.puts.values) place (chained start base posts) eo ep
            (both_written x ts begun past mid [] (token at ∷ c.puts.values) gone
            (both_written x ts past inner mid [] (token at ∷ c.puts.values) (gone_written x ts 0 0 past inner eb)
            (both_written x ts inner named mid (token at ∷ []) c.puts.values w c.puts.writes))) t
            (c.is start (left_of x ts this tok) [] span base h) (c.key start base)) c;
      }

  pub nameless : {begun mid new : List ChangedEntry} {place : ℕ} {o : Option (List Post)} (old : List ChangedEntry)
      (start : ℕ) (base : Expr) → IsNone env x ts base → begun ≡ old ++ opened → place ≡ length old
      → IfThere (Chained env x ts false begun mid None) o → new ≡ take place mid
      → IfThere (λ posts. IsInBrackets env x ts old new false (chained start base posts)) o
  nameless {begun = begun} {mid = mid} {new = new} {place = place} {o = o} old start base n eo ep c t =
      lifted (λ posts c.
      none_given old begun mid new c.puts.values place (chained start base posts) eo ep c.puts.writes t
      (c.is start (vThis.This nowhere) [] nowhere base n) (c.key start base)) c

  -- ---- from what a chain begins with
  with_base : (P : Expr → Type 0) (start : ℕ) (base : Expr) (first : Option Post) (others : Option (List Post))
      → IfThere (λ posts. P (chained start base posts)) (posts_of first others)
      → IfThere P (given first (λ first. given others (λ others. Some (chained start base (first ∷ others)))))
  with_base P start base None others h = record { is = tt }
  with_base P start base (Some first) None h = record { is = tt }
  with_base P start base (Some first) (Some others) h = record { is = h.is }

  pub named_chain : (old new : List ChangedEntry) (wrote : Bool) (at : ℕ) (r : Range) (first : Option Post)
      (row : Value) → IfThere
      (λ (t : Token). (base : Expr) (span : Range) → IsName env x ts (left_of x ts false t) [] span base
      → IfThere (λ posts. IsInBrackets env x ts old new wrote (chained r.start base posts))
      (posts_of first (turns (λ turn. post_at turn 0) row))) (slice_get ts at)
      → IfThere (IsInBrackets env x ts old new wrote) (call.chained_of r (primary.ident x (slice_get ts at)) first row)
  unfolding call.chained_of primary.ident
  named_chain old new wrote at r first row h = go (slice_get ts at) h
    where
      go : (o : Option Token) → IfThere (λ (t : Token). (base : Expr) (span : Range)
          → IsName env x ts (left_of x ts false t) [] span base
          → IfThere (λ posts. IsInBrackets env x ts old new wrote (chained r.start base posts))
          (posts_of first (turns (λ turn. post_at turn 0) row))) o
          → IfThere (IsInBrackets env x ts old new wrote) (given (option_map (λ t. vExpr.Ident (ident_of x t)) o)
          (λ base. given first (λ first. given (turns (λ turn. post_at turn 0) row)
          (λ others. Some (chained r.start base (first ∷ others))))))
      go None h = record { is = tt }
      go (Some t) h =
          with_base (IsInBrackets env x ts old new wrote) r.start (vExpr.Ident (ident_of x t)) first
          (turns (λ turn. post_at turn 0) row)
          (h.is (vExpr.Ident (ident_of x t)) (ident_of x t).span
          (ap (λ (s : Shown). s.entity)
          (shown_by env _ (Expr-F.Expr::Ident (ident_of x t)) (vExpr.rolls-Ident (ident_of x t)))))

  pub nameless_chain : {base : Option Expr} (old new : List ChangedEntry) (wrote : Bool) (r : Range)
      (first : Option Post) (row : Value) → IfThere (λ e. (shown_expr env e).entity ≡ None) base
      → ((start : ℕ) (base : Expr) → IsNone env x ts base
      → IfThere (λ posts. IsInBrackets env x ts old new wrote (chained start base posts))
      (posts_of first (turns (λ turn. post_at turn 0) row)))
      → IfThere (IsInBrackets env x ts old new wrote) (call.chained_of r base first row)
  unfolding call.chained_of
  nameless_chain {base = None} old new wrote r first row n h = record { is = tt }
  nameless_chain {base = Some base} old new wrote r first row n h =
      with_base (IsInBrackets env x ts old new wrote) r.start base first (turns (λ turn. post_at turn 0) row)
      (h r.start base n.is)

  -- a word that isn't `this`
  word_none : (r : Range) (this null y n_ : Bool) → this ≡ false → IfThere (λ e. (shown_expr env e).entity ≡ None)
      (if this then Some (vExpr.This r) else (if null then Some (vExpr.Lit (vLit.Null r))
      else (if y then Some (vExpr.Lit (vLit.Bool true r)) else
      (if n_ then Some (vExpr.Lit (vLit.Bool false r)) else None))))
  word_none r true null y n_ e = absurd (true≢false e)
  word_none r false true y n_ e = record {
    is = ap (λ (s : Shown). s.entity) (shown_by env _ (Expr-F.Lit (vLit.Null r)) (vExpr.rolls-Lit (vLit.Null r)));
  }
  word_none r false false true n_ e = record {
    is = ap (λ (s : Shown). s.entity)
        (shown_by env _ (Expr-F.Lit (vLit.Bool true r)) (vExpr.rolls-Lit (vLit.Bool true r)));
  }
  word_none r false false false true e = record {
    is = ap (λ (s : Shown). s.entity)
        (shown_by env _ (Expr-F.Lit (vLit.Bool false r)) (vExpr.rolls-Lit (vLit.Bool false r)));
  }
  word_none r false false false false e = record { is = tt }

  other_word : (r : Range) (o : Option Token) → is_kind k.ThisWord o ≡ false
      → IfThere (λ e. (shown_expr env e).entity ≡ None) (primary.word r o)
  unfolding primary.word word_of
  other_word r None e = record { is = tt }
  other_word r (Some t) e =
      word_none r (same_kind t.kind k.ThisWord) (same_kind t.kind k.NullWord) (same_kind t.kind k.TrueWord)
      (same_kind t.kind k.FalseWord) e

  pub word_chain : (old new : List ChangedEntry) (wrote : Bool) (at : ℕ) (first : Option Post) (row : Value)
      (r place : Range) → is_kind k.ThisWord (slice_get ts at) ≡ false
      → ((start : ℕ) (base : Expr) → IsNone env x ts base
      → IfThere (λ posts. IsInBrackets env x ts old new wrote (chained start base posts))
      (posts_of first (turns (λ turn. post_at turn 0) row)))
      → IfThere (IsInBrackets env x ts old new wrote)
      (call.chained_of r (primary.word place (slice_get ts at)) first row)
  word_chain old new wrote at first row r place e h =
      nameless_chain old new wrote r first row (other_word place (slice_get ts at) e) h

  -- `this`
  this_there : (r : Range) (o : Option Token) → is_kind k.ThisWord o ≡ true
      → primary.word r o ≡ option_map (λ t. vExpr.This r) o
  unfolding primary.word word_of
  this_there r None e = refl
  this_there r (Some t) e =
      ap (word_of r) (kind_of k.ThisWord t e)

  pub this_chain : {from to : ℕ} (old new : List ChangedEntry) (wrote : Bool) (at : ℕ) (r : Range)
      (first : Option Post) (row : Value) → is_kind k.ThisWord (slice_get ts at) ≡ true → (from ≡ at) × (to ≡ at + 1)
      → IfThere (λ (t : Token). (base : Expr) (span : Range) → IsName env x ts (left_of x ts true t) [] span base
      → IfThere (λ posts. IsInBrackets env x ts old new wrote (chained r.start base posts))
      (posts_of first (turns (λ turn. post_at turn 0) row))) (slice_get ts at)
      → IfThere (IsInBrackets env x ts old new wrote)
      (call.chained_of r (primary.word (span_of ts from to) (slice_get ts at)) first row)
  unfolding call.chained_of
  this_chain {from = from} {to = to} old new wrote at r first row e over h =
      subst (λ (o : Option Expr). IfThere (IsInBrackets env x ts old new wrote) (given o (λ base. given first (λ first.
      given (turns (λ turn. post_at turn 0) row) (λ others. Some (chained r.start base (first ∷ others)))))))
      (sym (this_there (span_of ts from to) (slice_get ts at) e)) (go (slice_get ts at) refl h)
    where
      place : (t : Token) → slice_get ts at ≡ Some t → span_of ts from to ≡ t.range
      place t is = ap (λ (n : ℕ). span_of ts n to) over.0
          ∙ (ap (λ (n : ℕ). span_of ts at n) over.1 ∙ token_span ts at t is)

      go : (o : Option Token) → slice_get ts at ≡ o → IfThere (λ (t : Token). (base : Expr) (span : Range)
          → IsName env x ts (left_of x ts true t) [] span base
          → IfThere (λ posts. IsInBrackets env x ts old new wrote (chained r.start base posts))
          (posts_of first (turns (λ turn. post_at turn 0) row))) o
          → IfThere (IsInBrackets env x ts old new wrote) (given (option_map (λ t. vExpr.This (span_of ts from to)) o)
          (λ base. given first (λ first. given (turns (λ turn. post_at turn 0) row)
          (λ others. Some (chained r.start base (first ∷ others))))))
      go None is h = record { is = tt }
      go (Some t) is h =
          with_base (IsInBrackets env x ts old new wrote) r.start (vExpr.This (span_of ts from to)) first
          (turns (λ turn. post_at turn 0) row)
          (h.is (vExpr.This (span_of ts from to)) (span_of ts from to)
          (ap (λ (s : Shown). s.entity) (shown_by env _ (Expr-F.Expr::This (span_of ts from to))
          (vExpr.rolls-This (span_of ts from to)))
          ∙ ap (λ (q : Range). Some (entity_from (vThis.This q) [] (span_of ts from to))) (place t is)))

  -- ---- by what stands there
  pub node_chain : (old new : List ChangedEntry) (wrote : Bool) (r : Range) (first : Option Post) (row : Value)
      (label : NodeKind) (from to : ℕ) (es : List Entry) → is_one_of beginning label ≡ false
      → ((start : ℕ) (base : Expr) → IsNone env x ts base
      → IfThere (λ posts. IsInBrackets env x ts old new wrote (chained start base posts))
      (posts_of first (turns (λ turn. post_at turn 0) row)))
      → IfThere (IsInBrackets env x ts old new wrote) (call.chained_of r
      (expr_in (made x ts (what.Node label) from to (held x ts es) (parts_of x ts es))) first row)
  node_chain old new wrote r first row label from to es h g =
      nameless_chain old new wrote r first row (node_entity env x ts label from to es h) g

  pub lean_chain : (old new : List ChangedEntry) (wrote : Bool) (r : Range) (first : Option Post) (row : Value)
      (lean : Lean) (from to : ℕ) (es : List Entry)
      → ((start : ℕ) (base : Expr) → IsNone env x ts base
      → IfThere (λ posts. IsInBrackets env x ts old new wrote (chained start base posts))
      (posts_of first (turns (λ turn. post_at turn 0) row)))
      → IfThere (IsInBrackets env x ts old new wrote) (call.chained_of r
      (expr_in (made x ts (what.Lean lean) from to (held x ts es) (parts_of x ts es))) first row)
  lean_chain old new wrote r first row lean from to es g =
      nameless_chain old new wrote r first row (lean_entity env x ts lean from to es) g

  pub node_at : (old new : List ChangedEntry) (wrote : Bool) (r : Range) (first : Option Post) (row : Value) (i : Item)
      (label : NodeKind) → i.what ≡ what.Node label → is_one_of beginning label ≡ false
      → ((start : ℕ) (base : Expr) → IsNone env x ts base
      → IfThere (λ posts. IsInBrackets env x ts old new wrote (chained start base posts))
      (posts_of first (turns (λ turn. post_at turn 0) row)))
      → IfThere (IsInBrackets env x ts old new wrote) (call.chained_of r (expr_in (valued x ts i)) first row)
  node_at old new wrote r first row i label e h g =
      subst (λ (w : What). IfThere (IsInBrackets env x ts old new wrote) (call.chained_of r
      (expr_in (made x ts w i.from i.to (held x ts i.parts.entries.now) (parts_of x ts i.parts.entries.now))) first
      row))
      (sym e) (node_chain old new wrote r first row label i.from i.to i.parts.entries.now h g)

  pub lean_at : (old new : List ChangedEntry) (wrote : Bool) (r : Range) (first : Option Post) (row : Value) (i : Item)
      (lean : Lean) → i.what ≡ what.Lean lean
      → ((start : ℕ) (base : Expr) → IsNone env x ts base
      → IfThere (λ posts. IsInBrackets env x ts old new wrote (chained start base posts))
      (posts_of first (turns (λ turn. post_at turn 0) row)))
      → IfThere (IsInBrackets env x ts old new wrote) (call.chained_of r (expr_in (valued x ts i)) first row)
  lean_at old new wrote r first row i lean e g =
      subst (λ (w : What). IfThere (IsInBrackets env x ts old new wrote) (call.chained_of r
      (expr_in (made x ts w i.from i.to (held x ts i.parts.entries.now) (parts_of x ts i.parts.entries.now))) first
      row))
      (sym e) (lean_chain old new wrote r first row lean i.from i.to i.parts.entries.now g)
