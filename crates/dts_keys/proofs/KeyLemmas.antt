-- Keys, by what they are.
use Rattle.std.specs.Prelude.{ℕ, ◌+◌, Bool, true, false, List, [], ◌∷◌, ◌++◌, Option, Some, None, option_map, if◌then◌else◌, length, slice_get}
use Rattle.std.proofs.Common.{◌≡◌, refl, sym, ap, subst, ◌∙◌}
use Rattle.std.proofs.lemmas.Bool.{true≢false}
use Rattle.base.specs.declared.range.Range.{Range}
use Rattle.es_token.specs.declared.token.Token.{Token}
use Rattle.es_token.specs.declared.token.TokenKind.TheVariants as k
use Rattle.grammar_theory.specs.Key.{same_kind}
use Rattle.es_grammar.specs.declared.rows.NodeKind.{NodeKind}
use Rattle.es_grammar.specs.declared.rows.NodeKind.TheVariants as l
use Rattle.es_ast.specs.declared.ts.leaf.Ident.{Ident}
use Rattle.es_ast.specs.declared.ts.leaf.TsEntityName.{TsEntityName}
use Rattle.es_ast.specs.declared.ts.leaf.TsKey.{TsKey}
use Rattle.es_ast.specs.declared.ts.leaf.TsKey.TheVariants as vKey
use Rattle.es_ast.specs.declared.ts.leaf.TsThisTypeOrIdent.TheVariants as vThis
use Rattle.es_ast.specs.declared.leaf.Lit.{Lit}
use Rattle.es_ast.specs.declared.leaf.Lit.TheVariants as vLit
use Rattle.es_ast.specs.declared.ast.Expr.{Expr, roll-Expr, out-Expr}
use Rattle.es_ast.specs.declared.ast.Expr.TheVariants as vExpr
use Rattle.es_ast.specs.declared.ast.ClassMember.TheOpen.{Expr-F}
use Rattle.es_site.specs.Parts.{Whole}
use Rattle.es_lowering.specs.Value.{Value, token, given}
use Rattle.es_lowering.specs.Texts.{span_of, ident_of, str_of, private_of, numeric_of}
use Rattle.es_lowering.specs.TypeTexts.{number_of, big_of, computed_numeric}
use Rattle.es_lowering.specs.TypePatterns as type_pats
use Rattle.es_lowering.specs.Expressions.{word_of}
use Rattle.es_lowering.specs.Lowering.{packed, build, type_key_of}
use Rattle.es_syntax.specs.declared.entry.Entry.{Entry}
use Rattle.es_syntax.specs.declared.entry.Lean.{Lean}
use Rattle.es_syntax.specs.declared.entry.What.{What}
use Rattle.es_syntax.specs.declared.entry.What.TheVariants as what
use Rattle.es_syntax.specs.declared.cursor.Item.{Item}
use Rattle.es_syntax.specs.Held.{held, made, node_of, parts_of, valued}
use Rattle.es_syntax.specs.Roles.{entity_in, expr_in, type_key_in}
use Rattle.es_syntax.specs.Views.{is_one_of}
use Rattle.es_changed.specs.declared.entry.Change.TheVariants as change
use Rattle.es_changed.specs.declared.entry.Form.TheVariants as form
use Rattle.es_changed.specs.declared.entry.ChangedEntry.{ChangedEntry}
use Rattle.es_changed.specs.Formed.{formed, left_of, nowhere}
use Rattle.es_changed.specs.Shape.{closed, opened, Writes}
use Rattle.es_changed.proofs.Written.{nothing_written, both_written, form_written}
use Rattle.es_expr_spans.proofs.Spans.{out_Ident, out_Lit, out_PrivateName}
use Rattle.es_view_expressions.specs.expr.Primary as primary
use Rattle.es_view_expressions.specs.member.Key as key
use Rattle.dts_rules.specs.Rules.{Env, Shown, in_expr, lit_type_key, type_key}
use Rattle.dts_rules.specs.Programs.{shown_expr}
use Rattle.dts_rules.proofs.Shown.{beside_expr}
use Rattle.dts_draft.specs.Drafts.{is_kind}
use Rattle.dts_draft.specs.Written.{IfThere, Puts, Gives}
use Rattle.dts_draft.proofs.There.{lifted}
use Rattle.dts_leaves.proofs.Shown.{shown_by}
use Rattle.dts_leaves.proofs.NumberLemmas.{Numeric, number, big, none, numeric, token_span}
use Rattle.dts_leaves.proofs.Words.{kind_of}
use Rattle.dts_keys.specs.Keys.{entity_from, IsInBrackets, IsTypeKey, keyed}
use Rattle.dts_keys.proofs.Claims.{node_key, lean_key}

module _ (env : Env) where
  key_by : (it : Expr) (w : Whole Expr-F) → roll-Expr w ≡ it
      → (shown_expr env it).type_key ≡ (in_expr env (beside_expr env w)).type_key
  key_by it w rolls = ap (λ (s : Shown). s.type_key) (shown_by env it w rolls)

  lit_key : (it : Lit) → (shown_expr env (vExpr.Lit it)).type_key ≡ lit_type_key it
  lit_key it = key_by _ (Expr-F.Lit it) (vExpr.rolls-Lit it)

  module _ (x : List ℕ) (ts : List Token) where
    -- a key that is written, and one that isn't
    written : (old new : List ChangedEntry) (o : Option TsKey) (a : TsKey) → o ≡ Some a
        → Puts x ts type_key_in old new a
        → Gives x ts type_key_in old new true o
    written old new o a e p = subst (Gives x ts type_key_in old new true) (sym e) (refl, p)

    left_out : (old : List ChangedEntry) (o : Option TsKey) → o ≡ None → Gives x ts type_key_in old old false o
    left_out old o e = subst (Gives x ts type_key_in old old false) (sym e) (refl, nothing_written x ts old)

    -- ---- numbers
    in_brackets : (t : Token) (o : Option Lit) → Numeric x t o
        → IfThere (λ it. computed_numeric x nowhere t ≡ lit_type_key it) o
    unfolding computed_numeric number_of big_of
    in_brackets t o (number a) = record { is = first (same_kind t.kind k.Number) (same_kind t.kind k.BigInt) a }
      where
        first : (b c : Bool) → b ≡ true → (if b then Some (vKey.ComputedNum (number_of x t) nowhere)
            else (if c then Some (vKey.ComputedBigInt (big_of x t) nowhere) else None))
            ≡ Some (vKey.ComputedNum (number_of x t) nowhere)
        first true c e = refl
        first false c e = absurd (true≢false (sym e))
    in_brackets t o (big a b) = record { is = second (same_kind t.kind k.Number) (same_kind t.kind k.BigInt) a b }
      where
        second : (b c : Bool) → b ≡ false → c ≡ true → (if b then Some (vKey.ComputedNum (number_of x t) nowhere)
            else (if c then Some (vKey.ComputedBigInt (big_of x t) nowhere) else None))
            ≡ Some (vKey.ComputedBigInt (big_of x t) nowhere)
        second true c e f = absurd (true≢false e)
        second false true e f = refl
        second false false e f = absurd (true≢false (sym f))
    in_brackets t o none = record { is = tt }

    put : (old new : List ChangedEntry) (v : Value) (o p : Option TsKey) → Writes x ts old new (v ∷ [])
        → type_key_in v ≡ o
        → o ≡ p → (a : TsKey) → p ≡ Some a → Gives x ts type_key_in old new true p
    put old new v o p w e f a g = written old new p a g (record { value = v; writes = w; is = e ∙ (f ∙ g) })

    number_by : (old new : List ChangedEntry) (v : Value) (t : Token) (o : Option Lit) → Numeric x t o
        → Writes x ts old new (v ∷ []) → type_key_in v ≡ computed_numeric x nowhere t
        → IfThere (λ it. computed_numeric x nowhere t ≡ lit_type_key it) o
        → IfThere (λ it. Gives x ts type_key_in old new true (lit_type_key it)) o
    number_by old new v t o (number a) w e h = record { is = put old new v _ _ w e h.is _ refl }
    number_by old new v t o (big a b) w e h = record { is = put old new v _ _ w e h.is _ refl }
    number_by old new v t o none w e h = record { is = tt }

    number_given : (at : ℕ) (old mid new : List ChangedEntry) → Writes x ts old mid []
        → Writes x ts mid new (formed x ts form.NumberKey at (at + 1) (packed (token at ∷ [])) ∷ [])
        → IfThere (λ it. Gives x ts type_key_in old new true (lit_type_key it)) (given (slice_get ts at) (numeric_of x))
    number_given at old mid new gone w = go (slice_get ts at) refl
      where
        go : (o : Option Token) → slice_get ts at ≡ o
            → IfThere (λ it. Gives x ts type_key_in old new true (lit_type_key it)) (given o (numeric_of x))
        go None is = record { is = tt }
        go (Some t) is =
            number_by old new (formed x ts form.NumberKey at (at + 1) (packed (token at ∷ []))) t (numeric_of x t)
            (numeric x t) (both_written x ts old mid new [] _ gone w)
            (ap (λ o. given o (computed_numeric x nowhere)) is) (in_brackets t (numeric_of x t) (numeric x t))

    literal : (old new : List ChangedEntry) (o : Option Lit)
        → IfThere (λ it. Gives x ts type_key_in old new true (lit_type_key it)) o
        → IfThere (IsInBrackets env x ts old new true) (option_map vExpr.Lit o)
    literal old new None h = record { is = tt }
    literal old new (Some it) h = record { is = subst (Gives x ts type_key_in old new true) (sym (lit_key it)) h.is }

    pub number_written : {old mid new : List ChangedEntry} {at : ℕ} → Writes x ts old mid []
        → Writes x ts mid new (formed x ts form.NumberKey at (at + 1) (packed (token at ∷ [])) ∷ [])
        → IfThere (IsInBrackets env x ts old new true) (primary.number x (slice_get ts at))
    unfolding primary.number
    number_written {old = old} {mid = mid} {new = new} {at = at} gone w =
        literal old new (given (slice_get ts at) (numeric_of x)) (number_given at old mid new gone w)

    -- ---- strings
    pub str_written : {old mid new : List ChangedEntry} {at : ℕ} → Writes x ts old mid []
        → Writes x ts mid new (formed x ts form.StrKey at (at + 1) (packed (token at ∷ [])) ∷ [])
        → IfThere (IsInBrackets env x ts old new true) (primary.str x (slice_get ts at))
    unfolding primary.str
    str_written {old = old} {mid = mid} {new = new} {at = at} gone w = go (slice_get ts at) refl
      where
        go : (o : Option Token) → slice_get ts at ≡ o
            → IfThere (IsInBrackets env x ts old new true) (option_map (λ t. vExpr.Lit (vLit.Str (str_of x t))) o)
        go None is = record { is = tt }
        go (Some t) is = record {
          is = written old new _ (vKey.ComputedStr (str_of x t) nowhere) (lit_key (vLit.Str (str_of x t))) (record {
            value = formed x ts form.StrKey at (at + 1) (packed (token at ∷ []));
            writes = both_written x ts old mid new [] _ gone w;
            is = ap (λ o. option_map (λ s. vKey.ComputedStr s nowhere) (option_map (str_of x) o)) is;
          });
        }

    -- ---- names and `this`
    entity_key_read : (v : Value) (name : TsEntityName) → entity_in v ≡ Some name
        → type_key_in (formed x ts form.EntityKey 0 0 (packed (v ∷ []))) ≡ Some (vKey.Entity name nowhere)
    entity_key_read v name e = ap (option_map (λ name. vKey.Entity name nowhere)) e

    name_read : (at : ℕ) (t : Token) → slice_get ts at ≡ Some t
        → entity_in (formed x ts form.Path at (at + 1) (packed (token at ∷ [])))
        ≡ Some (entity_from (vThis.Ident (ident_of x t)) [] ((ident_of x t).span))
    unfolding ident_of
    name_read at t is =
        ap (λ o. given o (λ (t : Token). Some (entity_from (left_of x ts false t) [] (span_of ts at (at + 1))))) is
        ∙ ap (λ (r : Range). Some (entity_from (left_of x ts false t) [] (r))) (token_span ts at t is)

    this_read : (at : ℕ) (t : Token) → slice_get ts at ≡ Some t
        → entity_in (formed x ts form.ThisPath at (at + 1) (packed (token at ∷ [])))
        ≡ Some (entity_from (vThis.This (span_of ts at (at + 1))) [] (span_of ts at (at + 1)))
    this_read at t is =
        ap (λ o. given o (λ (t : Token). Some (entity_from (left_of x ts true t) [] (span_of ts at (at + 1))))) is
        ∙ ap (λ (r : Range). Some (entity_from (vThis.This r) [] (span_of ts at (at + 1))))
        (sym (token_span ts at t is))

    entity_put : (old begun mid inner new : List ChangedEntry) (place : ℕ) (v : Value) (name : TsEntityName)
        → begun ≡ old ++ opened → place ≡ length old → Writes x ts begun mid [] → Writes x ts mid inner (v ∷ [])
        → new ≡ closed (change.Form form.EntityKey) 0 0 place inner → entity_in v ≡ Some name
        → Puts x ts type_key_in old new (vKey.Entity name nowhere)
    entity_put old begun mid inner new place v name eo ep gone w c e = record {
      value = formed x ts form.EntityKey 0 0 (packed (v ∷ []));
      writes = form_written x ts form.EntityKey 0 0 place old begun inner new (v ∷ []) eo ep
          (both_written x ts begun mid inner [] (v ∷ []) gone w) c;
      is = entity_key_read v name e;
    }

    pub name_written : {begun mid inner new : List ChangedEntry} {place at : ℕ} (old : List ChangedEntry)
        → begun ≡ old ++ opened
        → place ≡ length old → Writes x ts begun mid []
        → Writes x ts mid inner (formed x ts form.Path at (at + 1) (packed (token at ∷ [])) ∷ [])
        → new ≡ closed (change.Form form.EntityKey) 0 0 place inner
        → IfThere (IsInBrackets env x ts old new true) (primary.ident x (slice_get ts at))
    unfolding primary.ident
    name_written {begun = begun} {mid = mid} {inner = inner} {new = new} {place = place} {at = at} old eo ep gone w c =
        go (slice_get ts at) refl
      where
        go : (o : Option Token) → slice_get ts at ≡ o
            → IfThere (IsInBrackets env x ts old new true) (option_map (λ t. vExpr.Ident (ident_of x t)) o)
        go None is = record { is = tt }
        go (Some t) is = record {
          is = written old new _ _ (key_by _ (Expr-F.Expr::Ident (ident_of x t)) (vExpr.rolls-Ident (ident_of x t)))
              (entity_put old begun mid inner new place _ _ eo ep gone w c (name_read at t is));
        }

    pub this_written : {begun mid inner new : List ChangedEntry} {place at : ℕ} (old : List ChangedEntry)
        → begun ≡ old ++ opened
        → place ≡ length old → Writes x ts begun mid []
        → Writes x ts mid inner (formed x ts form.ThisPath at (at + 1) (packed (token at ∷ [])) ∷ [])
        → new ≡ closed (change.Form form.EntityKey) 0 0 place inner → is_kind k.ThisWord (slice_get ts at) ≡ true
        → IfThere (IsInBrackets env x ts old new true) (primary.word (span_of ts at (at + 1)) (slice_get ts at))
    unfolding primary.word word_of
    this_written {begun = begun} {mid = mid} {inner = inner} {new = new} {place = place} {at = at} old eo ep gone w c
        e = go (slice_get ts at) refl e
      where
        go : (o : Option Token) → slice_get ts at ≡ o → is_kind k.ThisWord o ≡ true
            → IfThere (IsInBrackets env x ts old new true)
            (given (option_map (λ t. t.kind) o) (word_of (span_of ts at (at + 1))))
        go None is e = record { is = tt }
        go (Some t) is e =
            subst (λ kind. IfThere (IsInBrackets env x ts old new true) (word_of (span_of ts at (at + 1)) kind))
            (sym (kind_of k.ThisWord t e)) (record {
              is = written old new _ _
                  (key_by _ (Expr-F.Expr::This (span_of ts at (at + 1))) (vExpr.rolls-This (span_of ts at (at + 1))))
                  (entity_put old begun mid inner new place _ _ eo ep gone w c (this_read at t is));
            })

    pub this_over : {at from to : ℕ} (old new : List ChangedEntry) → (from ≡ at) × (to ≡ at + 1)
        → IfThere (IsInBrackets env x ts old new true) (primary.word (span_of ts at (at + 1)) (slice_get ts at))
        → IfThere (IsInBrackets env x ts old new true) (primary.word (span_of ts from to) (slice_get ts at))
    this_over {at = at} {from = from} {to = to} old new over h =
        subst (λ (r : Range). IfThere (IsInBrackets env x ts old new true) (primary.word r (slice_get ts at)))
        (sym (ap (λ (n : ℕ). span_of ts n to) over.0 ∙ ap (λ (n : ℕ). span_of ts at n) over.1)) h

    word_by : (old : List ChangedEntry) (r : Range) (this null y n_ : Bool) → this ≡ false
        → IfThere (IsInBrackets env x ts old old false) (if this then Some (vExpr.This r)
        else (if null then Some (vExpr.Lit (vLit.Null r)) else (if y then Some (vExpr.Lit (vLit.Bool true r))
        else (if n_ then Some (vExpr.Lit (vLit.Bool false r)) else None))))
    word_by old r true null y n_ e = absurd (true≢false e)
    word_by old r false true y n_ e = record { is = left_out old _ (lit_key (vLit.Null r)) }
    word_by old r false false true n_ e = record { is = left_out old _ (lit_key (vLit.Bool true r)) }
    word_by old r false false false true e = record { is = left_out old _ (lit_key (vLit.Bool false r)) }
    word_by old r false false false false e = record { is = tt }

    pub word_none : (old : List ChangedEntry) (at : ℕ) (r : Range) → is_kind k.ThisWord (slice_get ts at) ≡ false
        → IfThere (IsInBrackets env x ts old old false) (primary.word r (slice_get ts at))
    unfolding primary.word word_of
    word_none old at r e = go (slice_get ts at) e
      where
        go : (o : Option Token) → is_kind k.ThisWord o ≡ false
            → IfThere (IsInBrackets env x ts old old false) (given (option_map (λ t. t.kind) o) (word_of r))
        go None e = record { is = tt }
        go (Some t) e =
            word_by old r (same_kind t.kind k.ThisWord) (same_kind t.kind k.NullWord) (same_kind t.kind k.TrueWord)
            (same_kind t.kind k.FalseWord) e

    -- ---- what is none
    no_key : (old : List ChangedEntry) (o : Option Expr) → IfThere (λ e. (shown_expr env e).type_key ≡ None) o
        → IfThere (IsInBrackets env x ts old old false) o
    no_key old o h = lifted (λ e n. left_out old (shown_expr env e).type_key n) h

    pub node_none : (old : List ChangedEntry) (label : NodeKind) (from to : ℕ) (es : List Entry)
        → is_one_of keyed label ≡ false → IfThere (IsInBrackets env x ts old old false)
        (expr_in (made x ts (what.Node label) from to (held x ts es) (parts_of x ts es)))
    node_none old label from to es h = no_key old _ (node_key env x ts label from to es h)

    pub lean_none : (old : List ChangedEntry) (lean : Lean) (from to : ℕ) (es : List Entry)
        → IfThere (IsInBrackets env x ts old old false)
        (expr_in (made x ts (what.Lean lean) from to (held x ts es) (parts_of x ts es)))
    lean_none old lean from to es = no_key old _ (lean_key env x ts lean from to es)

    pub lean_at : (old : List ChangedEntry) (i : Item) (lean : Lean) → i.what ≡ what.Lean lean
        → IfThere (IsInBrackets env x ts old old false) (expr_in (valued x ts i))
    lean_at old i lean e =
        subst (λ (w : What). IfThere (IsInBrackets env x ts old old false)
        (expr_in (made x ts w i.from i.to (held x ts i.parts.entries.now) (parts_of x ts i.parts.entries.now)))) (sym e)
        (lean_none old lean i.from i.to i.parts.entries.now)

    -- ---- keys that aren't in brackets, and those that are
    word_key_is : (from to at : ℕ) → type_key_in (node_of x ts l.WordKeyOfType from to (packed (token at ∷ [])))
        ≡ option_map vKey.Ident (option_map (ident_of x) (slice_get ts at))
    unfolding build type_key_of type_pats.word_key
    word_key_is from to at = refl

    str_key_is : (from to at : ℕ) → type_key_in (node_of x ts l.StrKeyOfType from to (packed (token at ∷ [])))
        ≡ option_map vKey.Str (option_map (str_of x) (slice_get ts at))
    unfolding build type_key_of type_pats.str_key
    str_key_is from to at = refl

    pub word_is : {old mid new : List ChangedEntry} {at : ℕ} → Writes x ts old mid []
        → Writes x ts mid new (node_of x ts l.WordKeyOfType at (at + 1) (packed (token at ∷ [])) ∷ [])
        → IfThere (IsTypeKey env x ts old new true) (key.word x (slice_get ts at))
    unfolding key.word
    word_is {old = old} {mid = mid} {new = new} {at = at} gone w = go (slice_get ts at) refl
      where
        go : (o : Option Token) → slice_get ts at ≡ o
            → IfThere (IsTypeKey env x ts old new true) (option_map (λ t. (false, vExpr.Ident (ident_of x t))) o)
        go None is = record { is = tt }
        go (Some t) is = record {
          is = written old new _ (vKey.Ident (ident_of x t))
              (ap (λ w. type_key env false w (shown_expr env (vExpr.Ident (ident_of x t)))) (out_Ident (ident_of x t)))
              (record {
                value = node_of x ts l.WordKeyOfType at (at + 1) (packed (token at ∷ []));
                writes = both_written x ts old mid new [] _ gone w;
                is = word_key_is at (at + 1) at ∙ ap (λ o. option_map vKey.Ident (option_map (ident_of x) o)) is;
              });
        }

    pub str_is : {old mid new : List ChangedEntry} {at : ℕ} → Writes x ts old mid []
        → Writes x ts mid new (node_of x ts l.StrKeyOfType at (at + 1) (packed (token at ∷ [])) ∷ [])
        → IfThere (IsTypeKey env x ts old new true) (key.str x (slice_get ts at))
    unfolding key.str
    str_is {old = old} {mid = mid} {new = new} {at = at} gone w = go (slice_get ts at) refl
      where
        go : (o : Option Token) → slice_get ts at ≡ o
            → IfThere (IsTypeKey env x ts old new true) (option_map (λ t. (false, vExpr.Lit (vLit.Str (str_of x t)))) o)
        go None is = record { is = tt }
        go (Some t) is = record {
          is = written old new _ (vKey.Str (str_of x t))
              (ap (λ w. type_key env false w (shown_expr env (vExpr.Lit (vLit.Str (str_of x t)))))
              (out_Lit (vLit.Str (str_of x t))))
              (record {
                value = node_of x ts l.StrKeyOfType at (at + 1) (packed (token at ∷ []));
                writes = both_written x ts old mid new [] _ gone w;
                is = str_key_is at (at + 1) at ∙ ap (λ o. option_map vKey.Str (option_map (str_of x) o)) is;
              });
        }

    number_key_of : (t : Token) (o : Option Lit) → Numeric x t o → IfThere (λ it.
        type_key env false (out-Expr (vExpr.Lit it)) (shown_expr env (vExpr.Lit it))
        ≡ (shown_expr env (vExpr.Lit it)).type_key) o
    number_key_of t o (number a) = record {
      is = ap (λ w. type_key env false w (shown_expr env (vExpr.Lit (vLit.Num (number_of x t)))))
          (out_Lit (vLit.Num (number_of x t)));
    }
    number_key_of t o (big a b) = record {
      is = ap (λ w. type_key env false w (shown_expr env (vExpr.Lit (vLit.BigInt (big_of x t)))))
          (out_Lit (vLit.BigInt (big_of x t)));
    }
    number_key_of t o none = record { is = tt }

    number_again : (old new : List ChangedEntry) (o : Option Lit)
        → IfThere (λ it. type_key env false (out-Expr (vExpr.Lit it)) (shown_expr env (vExpr.Lit it))
        ≡ (shown_expr env (vExpr.Lit it)).type_key) o
        → IfThere (IsInBrackets env x ts old new true) (option_map vExpr.Lit o)
        → IfThere (IsTypeKey env x ts old new true) (option_map (λ lit. (false, vExpr.Lit lit)) o)
    number_again old new None e h = record { is = tt }
    number_again old new (Some it) e h = record { is = subst (Gives x ts type_key_in old new true) (sym e.is) h.is }

    pub number_is : (old new : List ChangedEntry) (at : ℕ)
        → IfThere (IsInBrackets env x ts old new true) (primary.number x (slice_get ts at))
        → IfThere (IsTypeKey env x ts old new true) (key.number x (slice_get ts at))
    unfolding primary.number key.number
    number_is old new at h = go (slice_get ts at) h
      where
        go : (o : Option Token)
            → IfThere (IsInBrackets env x ts old new true) (option_map vExpr.Lit (given o (numeric_of x)))
            → IfThere (IsTypeKey env x ts old new true)
            (option_map (λ lit. (false, vExpr.Lit lit)) (given o (numeric_of x)))
        go None h = record { is = tt }
        go (Some t) h = number_again old new (numeric_of x t) (number_key_of t (numeric_of x t) (numeric x t)) h

    pub computed_is : {o : Option Expr} (old new : List ChangedEntry) (wrote : Bool)
        → IfThere (IsInBrackets env x ts old new wrote) o → IfThere (IsTypeKey env x ts old new wrote) (key.computed o)
    unfolding key.computed
    computed_is {o = None} old new wrote h = record { is = tt }
    computed_is {o = Some e} old new wrote h = record { is = h.is }

    pub private_is : (old : List ChangedEntry) (o : Option Token)
        → IfThere (IsTypeKey env x ts old old false) (key.private x o)
    unfolding key.private
    private_is old None = record { is = tt }
    private_is old (Some t) = go (private_of x t)
      where
        go : (o : Option Ident)
            → IfThere (IsTypeKey env x ts old old false) (option_map (λ name. (false, vExpr.PrivateName name)) o)
        go None = record { is = tt }
        go (Some id) = record {
          is = left_out old _
              (ap (λ w. type_key env false w (shown_expr env (vExpr.PrivateName id))) (out_PrivateName id)
              ∙ key_by _ (Expr-F.PrivateName id) (vExpr.rolls-PrivateName id));
        }
