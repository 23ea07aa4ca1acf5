-- Which expressions are names.
use Rattle.std.specs.Prelude.{ℕ, ◌==◌, Bool, true, false, ◌&&◌, ◌||◌, List, [], ◌∷◌, Option, Some, None, option_map, bytes_eq}
use Rattle.std.proofs.Common.{◌≡◌, refl, sym, ap, subst, ◌∙◌}
use Rattle.std.specs.Cmp.Lexicographic.{nat_list_eq_equiv}
use Rattle.base.specs.declared.range.Range.{Range}
use Rattle.es_token.specs.declared.token.Token.{Token}
use Rattle.es_grammar.specs.declared.rows.NodeKind.{NodeKind}
use Rattle.es_grammar.specs.declared.rows.NodeKind.TheVariants as l
use Rattle.es_ast.specs.declared.ts.leaf.Ident.{Ident}
use Rattle.es_ast.specs.declared.ast.Expr.{Expr, out-Expr, roll-Expr, out-roll-Expr}
use Rattle.es_ast.specs.declared.ast.Expr.TheVariants as vExpr
use Rattle.es_ast.specs.declared.ast.ClassMember.TheOpen.{Expr-F}
use Rattle.es_site.specs.Parts.{Whole}
use Rattle.es_lowering.specs.Value.{Value, part}
use Rattle.es_lowering.specs.Texts.{span_of, ident_at}
use Rattle.es_lowering.specs.Expressions as exprs
use Rattle.es_lowering.specs.Lowering.{build, expr_of}
use Rattle.es_syntax.specs.declared.entry.Entry.{Entry}
use Rattle.es_syntax.specs.declared.entry.What.{What}
use Rattle.es_syntax.specs.declared.entry.What.TheVariants as vWhat
use Rattle.es_syntax.specs.declared.cursor.Item.{Item}
use Rattle.es_syntax.specs.Held.{held, valued, made, parts_of}
use Rattle.es_syntax.specs.Roles.{expr_in}
use Rattle.es_syntax.specs.Views.{is_one_of}
use Rattle.es_syntax.proofs.Others.{in_held, in_role}
use Rattle.dts_rules.specs.Made.{if_true, named_type}
use Rattle.dts_rules.specs.Rules.{Env, new_type}
use Rattle.dts_draft.specs.Written.{IfThere}
use Rattle.dts_draft.proofs.There.{made as made_by}
use Rattle.dts_operands.specs.Labels.{naming}
use Rattle.dts_operands.proofs.Forms.{unnamed_forms, unnamed_leant}
use Rattle.dts_items.specs.Labels.{is_node_of}
use Rattle.dts_items.proofs.LabelLemmas.{by_labels}
use Rattle.dts_items.proofs.RuleLemmas.{IsNoName}

-- an expression that is a name
pub record IsName (e : Expr) : Type 0 where
  pub id : Ident
  pub is : out-Expr e ≡ Expr-F.Expr::Ident id

name_is : (id : Ident) → IsName (vExpr.Ident id)
name_is id = record { id = id; is = sym (ap out-Expr (vExpr.rolls-Ident id)) ∙ out-roll-Expr (Expr-F.Expr::Ident id) }

-- where the rules have all names to be classes, one that is none has no type after `new`
abbrev classes : Ident → Env
classes id = record {
  number = λ r. 0;
  unresolved = 0;
  sets = record { typeofs = []; plain = (id.sym, 0) ∷ []; arrays = [] };
  implements = λ r. false;
  name = λ n. [];
}

some_is : {A : Type 0} (a : A) → Some a ≡ None → ⊥
some_is a e = let bad : ⊥ = cc in bad

bytes_eq_same : (s : List ℕ) → bytes_eq s s ≡ true
bytes_eq_same s = nat_list_eq_equiv.refl s

classed : (id : Ident) → new_type (classes id) (Expr-F.Expr::Ident id) None ≡ Some (named_type id)
classed id = ap (λ (b : Bool). if_true ((b && (0 == 0)) || false) (named_type id)) (bytes_eq_same id.sym)

no_name : (w : Whole Expr-F) → ((env : Env) → new_type env w None ≡ None) → (env : Env) → IsNoName env w
no_name w each env id is =
    some_is (named_type id) (sym (classed id)
    ∙ (ap (λ (w : Whole Expr-F). new_type (classes id) w None) (sym is) ∙ each (classes id)))

abbrev Unnamed : Env → Expr → Type 0
Unnamed env e = new_type env (out-Expr e) None ≡ None

all_unnamed : (env : Env) (o : Option Expr) → ((env : Env) → IfThere (Unnamed env) o)
    → IfThere (λ e. IsNoName env (out-Expr e)) o
all_unnamed env None each = record { is = tt }
all_unnamed env (Some e) each = record { is = no_name (out-Expr e) (λ env. (each env).is) env }

module _ (x : List ℕ) (ts : List Token) where
  nothing : (P : Expr → Type 0) (o : Option Expr) → o ≡ None → IfThere P o
  nothing P o e = subst (IfThere P) (sym e) (record { is = tt })

  names : (label : NodeKind) (from : ℕ) (r : Range) (p : Value) → is_one_of naming label ≡ true
      → IfThere IsName (expr_of x ts label from r p)
  unfolding expr_of exprs.name
  names label from r p e =
      by_labels (λ label. IfThere IsName (expr_of x ts label from r p)) naming label e
      (made_by IsName vExpr.Ident (ident_at x ts p 0) name_is, tt)

  place : (w : What) (from to : ℕ) (es : List Entry) → is_node_of naming w ≡ true
      → IfThere IsName (expr_in (made x ts w from to (held x ts es) (parts_of x ts es)))
  unfolding build
  place vWhat.Leaf from to es e = record { is = tt }
  place (vWhat.Node label) from to es e = names label from (span_of ts from to) (held x ts es) e
  place (vWhat.Role label) from to es e = let bad : ⊥ = cc in absurd bad
  place vWhat.Parts from to es e = let bad : ⊥ = cc in absurd bad
  place (vWhat.Lean lean) from to es e = let bad : ⊥ = cc in absurd bad

  pub named : (i : Item) → is_node_of naming i.what ≡ true → IfThere IsName (expr_in (valued x ts i))
  named i e = place i.what i.from i.to i.parts.entries.now e

  unnamed_place : (env : Env) (w : What) (from to : ℕ) (es : List Entry) → is_node_of naming w ≡ false
      → IfThere (Unnamed env) (expr_in (made x ts w from to (held x ts es) (parts_of x ts es)))
  unfolding build
  unnamed_place env vWhat.Leaf from to es e = record { is = tt }
  unnamed_place env (vWhat.Node label) from to es e = unnamed_forms env x ts label from (span_of ts from to) es e
  unnamed_place env (vWhat.Role label) from to es e =
      nothing (Unnamed env) _ (in_role x ts (λ m. m.expr) (λ e. refl) (part (held x ts es) 0))
  unnamed_place env vWhat.Parts from to es e = nothing (Unnamed env) _ (in_held x ts (λ m. m.expr) es)
  unnamed_place env (vWhat.Lean lean) from to es e = unnamed_leant env x ts lean from (parts_of x ts es)

  pub unnamed : (env : Env) (i : Item) → is_node_of naming i.what ≡ false
      → IfThere (λ e. IsNoName env (out-Expr e)) (expr_in (valued x ts i))
  unnamed env i e =
      all_unnamed env (expr_in (valued x ts i)) (λ env. unnamed_place env i.what i.from i.to i.parts.entries.now e)
