-- What keys and expressions in brackets are called.
use Rattle.std.specs.Prelude.{ℕ, ◌+◌, Bool, true, false, List, Option, Some, None, option_map, slice_get, slice_range, if◌then◌else◌}
use Rattle.std.proofs.Common.{◌<◌, IsUtf8, ◌≡◌, refl, sym, ap, subst, ◌∙◌}
use Rattle.es_token.specs.declared.token.Token.{Token}
use Rattle.es_token.specs.declared.token.TokenKind.TheVariants as k
use Rattle.grammar_theory.specs.Key.{same_kind}
use Rattle.es_lexer.specs.Reads.{ReadsTokens}
use Rattle.es_lexer.proofs.Theorems.{reads_within, reads_boundary}
use Rattle.es_literal.specs.Values.{value_of}
use Rattle.es_ast.specs.declared.ts.leaf.Ident.{Ident}
use Rattle.es_ast.specs.declared.leaf.Lit.{Lit}
use Rattle.es_ast.specs.declared.leaf.Lit.TheVariants as vLit
use Rattle.es_ast.specs.declared.ast.Expr.{Expr}
use Rattle.es_ast.specs.declared.ast.Expr.TheVariants as vExpr
use Rattle.es_ast.specs.declared.ast.ClassMember.TheOpen.{Expr-F}
use Rattle.es_grammar.specs.declared.rows.NodeKind.{NodeKind}
use Rattle.es_lowering.specs.Texts.{ident_of, str_of, numeric_of, private_of}
use Rattle.es_lowering.specs.Functions.{Key}
use Rattle.es_syntax.specs.declared.entry.Lean.{Lean}
use Rattle.es_syntax.specs.declared.entry.What.{What}
use Rattle.es_syntax.specs.declared.entry.What.TheVariants as what
use Rattle.es_syntax.specs.declared.cursor.Item.{Item}
use Rattle.es_syntax.specs.Held.{held, made, parts_of, valued}
use Rattle.es_syntax.specs.Roles.{expr_in}
use Rattle.es_syntax.specs.Views.{is_one_of}
use Rattle.es_view_expressions.specs.expr.Primary as primary
use Rattle.es_view_expressions.specs.member.Key as key
use Rattle.dts_rules.specs.Ranges.{Name, text, private, number, Seen, lit_name, in_expr, seen_expr}
use Rattle.dts_overloads.specs.declared.names.Name.{Name as AName}
use Rattle.dts_overloads.specs.declared.names.Name.TheVariants as name
use Rattle.dts_overloads.specs.Names.{Cuts, spelling, private_spelling, keyed, beginning, IsNoPath, IsNoKey, IsDotted, Calls, CallsIn}
use Rattle.dts_overloads.proofs.Keyless.{seen_by, node_path, node_key, node_dotted, lean_path, lean_key, role_path, role_key, parts_path, parts_key, leaf_path, leaf_key}

-- ---- what a token is
pub reads_cut : (x : List ℕ) (ts : List Token) → IsUtf8 x → ReadsTokens x ts → (n : ℕ) (t : Token)
    → slice_get ts n ≡ Some t → Cuts x t
reads_cut x ts utf reads n t there =
    let size : t.range.start < t.range.end = (reads_within x ts reads.0 n t reads.1 there).0 in
    let ends = reads_boundary x ts reads.0 n t utf reads.1 there in
    record { ordered = size; starts = ends.0; ends = ends.1 }

pub spelled_is : (x s : List ℕ) (o : Option Token) (t : Token) → Some t ≡ o
    → s ≡ slice_range x t.range.start t.range.end → spelling x o ≡ Some s
spelled_is x s o t e f = ap (spelling x) (sym e) ∙ ap Some (sym f)

pub private_is : (x s : List ℕ) (o : Option Token) (t : Token) → Some t ≡ o
    → s ≡ slice_range x (t.range.start + 1) t.range.end → private_spelling x o ≡ Some s
private_is x s o t e f = ap (private_spelling x) (sym e) ∙ ap Some (sym f)

pub value_is : (o : Option (List ℕ)) (s t : List ℕ) → o ≡ Some s → t ≡ value_of s → option_map value_of o ≡ Some t
value_is o s t e f = ap (option_map value_of) e ∙ ap Some (sym f)

ident_key : (id : Ident) → (seen_expr (vExpr.Ident id)).key false ≡ Some (text id.sym)
ident_key id = ap (λ (s : Seen). s.key false) (seen_by _ (Expr-F.Expr::Ident id) (vExpr.rolls-Ident id))

lit_key : (it : Lit) (b : Bool) → (seen_expr (vExpr.Lit it)).key b ≡ lit_name it
lit_key it b = ap (λ (s : Seen). s.key b) (seen_by _ (Expr-F.Lit it) (vExpr.rolls-Lit it))

private_key : (id : Ident) → (seen_expr (vExpr.PrivateName id)).key false ≡ Some (private id.sym)
private_key id = ap (λ (s : Seen). s.key false) (seen_by _ (Expr-F.PrivateName id) (vExpr.rolls-PrivateName id))

module _ (x : List ℕ) where
  pub calls_word : (o : Option Token) (t : List ℕ) → spelling x o ≡ Some t → Calls (Some (name.Text t)) (key.word x o)
  unfolding key.word ident_of
  calls_word None t e = record { calls = tt }
  calls_word (Some tok) t e = record { calls = ident_key (ident_of x tok) ∙ ap (option_map text) e }

  pub calls_str : (o : Option Token) (t : List ℕ) → option_map value_of (spelling x o) ≡ Some t
      → Calls (Some (name.Text t)) (key.str x o)
  unfolding key.str str_of
  calls_str None t e = record { calls = tt }
  calls_str (Some tok) t e = record { calls = lit_key (vLit.Str (str_of x tok)) false ∙ ap (option_map text) e }

  -- a number or a BigInt
  pub number_called : (b : Bool) (o : Option Token) (t : List ℕ) → spelling x o ≡ Some t
      → CallsIn (Some (name.Number t)) (primary.number x o)
  unfolding primary.number numeric_of
  number_called b None t e = record { calls = tt }
  number_called b (Some tok) t e = go (same_kind tok.kind k.Number) (same_kind tok.kind k.BigInt)
    where
      go : (a c : Bool)
          → CallsIn (Some (name.Number t)) (option_map vExpr.Lit (if a
          then Some (vLit.Num (record { raw = slice_range x tok.range.start tok.range.end; span = tok.range }))
          else (if c
          then Some (vLit.BigInt (record { raw = slice_range x tok.range.start tok.range.end; span = tok.range }))
          else None)))
      go true c = record { calls = lit_key _ true ∙ ap (option_map number) e }
      go false true = record { calls = lit_key _ true ∙ ap (option_map number) e }
      go false false = record { calls = tt }

  pub calls_number : (o : Option Token) (t : List ℕ) → spelling x o ≡ Some t
      → Calls (Some (name.Number t)) (key.number x o)
  unfolding key.number numeric_of
  calls_number None t e = record { calls = tt }
  calls_number (Some tok) t e = go (same_kind tok.kind k.Number) (same_kind tok.kind k.BigInt)
    where
      go : (a c : Bool)
          → Calls (Some (name.Number t)) (option_map (λ lit. (false, vExpr.Lit lit)) (if a
          then Some (vLit.Num (record { raw = slice_range x tok.range.start tok.range.end; span = tok.range }))
          else (if c
          then Some (vLit.BigInt (record { raw = slice_range x tok.range.start tok.range.end; span = tok.range }))
          else None)))
      go true c = record { calls = lit_key _ false ∙ ap (option_map number) e }
      go false true = record { calls = lit_key _ false ∙ ap (option_map number) e }
      go false false = record { calls = tt }

  pub calls_private : (o : Option Token) (t : List ℕ) → private_spelling x o ≡ Some t
      → Calls (Some (name.Private t)) (key.private x o)
  unfolding key.private private_of
  calls_private None t e = record { calls = tt }
  calls_private (Some tok) t e = go (same_kind tok.kind k.PrivateName)
    where
      go : (a : Bool)
          → Calls (Some (name.Private t)) (option_map (λ name. (false, vExpr.PrivateName name)) (if a
          then Some (record { sym = slice_range x (tok.range.start + 1) tok.range.end; ctxt = 0; optional = false; span = tok.range })
          else None))
      go true = record { calls = private_key _ ∙ ap (option_map private) e }
      go false = record { calls = tt }

  pub calls_in_str : (v : Option Expr) (o : Option Token) (t : List ℕ) → v ≡ primary.str x o
      → option_map value_of (spelling x o) ≡ Some t → CallsIn (Some (name.Text t)) v
  unfolding primary.str str_of
  calls_in_str v None t f e = subst (CallsIn (Some (name.Text t))) (sym f) (record { calls = tt })
  calls_in_str v (Some tok) t f e =
      subst (CallsIn (Some (name.Text t))) (sym f)
      (record { calls = lit_key (vLit.Str (str_of x tok)) true ∙ ap (option_map text) e })

  pub calls_in_number : (v : Option Expr) (o : Option Token) (t : List ℕ) → v ≡ primary.number x o
      → spelling x o ≡ Some t → CallsIn (Some (name.Number t)) v
  calls_in_number v o t f e = subst (CallsIn (Some (name.Number t))) (sym f) (number_called true o t e)

pub calls_computed : (it : Option AName) (o : Option Expr) → CallsIn it o → Calls it (key.computed o)
unfolding key.computed
calls_computed it None c = record { calls = tt }
calls_computed it (Some e) c = record { calls = c.calls }

pub calls_same : (it : Option AName) (a b : Option Key) → a ≡ b → Calls it b → Calls it a
calls_same it a b e c = subst (Calls it) (sym e) c

pub calls_none : (o : Option Expr) → IsNoKey o → CallsIn None o
calls_none None n = record { calls = tt }
calls_none (Some e) n = record { calls = n.is }

-- ---- by what stands there
module _ (x : List ℕ) (ts : List Token) (i : Item) where
  by_what : (P : Option Expr → Type 0) (w : What) → i.what ≡ w
      → P (expr_in (made x ts w i.from i.to (held x ts i.parts.entries.now) (parts_of x ts i.parts.entries.now)))
      → P (expr_in (valued x ts i))
  by_what P w e p =
      subst (λ (w : What). P (expr_in (made x ts w i.from i.to (held x ts i.parts.entries.now)
      (parts_of x ts i.parts.entries.now)))) (sym e) p

  pub key_of_node : (label : NodeKind) → i.what ≡ what.Node label → is_one_of keyed label ≡ false
      → IsNoKey (expr_in (valued x ts i))
  key_of_node label e h = by_what IsNoKey _ e (node_key x ts label i.from i.to i.parts.entries.now h)

  pub key_of_leaf : i.what ≡ what.Leaf → IsNoKey (expr_in (valued x ts i))
  key_of_leaf e = by_what IsNoKey _ e (leaf_key x ts i.from i.to i.parts.entries.now)

  pub key_of_role : (label : NodeKind) → i.what ≡ what.Role label → IsNoKey (expr_in (valued x ts i))
  key_of_role label e = by_what IsNoKey _ e (role_key x ts label i.from i.to i.parts.entries.now)

  pub key_of_parts : i.what ≡ what.Parts → IsNoKey (expr_in (valued x ts i))
  key_of_parts e = by_what IsNoKey _ e (parts_key x ts i.from i.to i.parts.entries.now)

  pub key_of_lean : (lean : Lean) → i.what ≡ what.Lean lean → IsNoKey (expr_in (valued x ts i))
  key_of_lean lean e = by_what IsNoKey _ e (lean_key x ts lean i.from i.to i.parts.entries.now)

  pub path_of_node : (label : NodeKind) → i.what ≡ what.Node label → is_one_of beginning label ≡ false
      → IsNoPath (expr_in (valued x ts i))
  path_of_node label e h = by_what IsNoPath _ e (node_path x ts label i.from i.to i.parts.entries.now h)

  pub dotted_node : (label : NodeKind) → i.what ≡ what.Node label → is_one_of beginning label ≡ true
      → IsDotted (expr_in (valued x ts i))
  dotted_node label e h = by_what IsDotted _ e (node_dotted x ts label i.from i.to i.parts.entries.now h)

  pub path_of_leaf : i.what ≡ what.Leaf → IsNoPath (expr_in (valued x ts i))
  path_of_leaf e = by_what IsNoPath _ e (leaf_path x ts i.from i.to i.parts.entries.now)

  pub path_of_role : (label : NodeKind) → i.what ≡ what.Role label → IsNoPath (expr_in (valued x ts i))
  path_of_role label e = by_what IsNoPath _ e (role_path x ts label i.from i.to i.parts.entries.now)

  pub path_of_parts : i.what ≡ what.Parts → IsNoPath (expr_in (valued x ts i))
  path_of_parts e = by_what IsNoPath _ e (parts_path x ts i.from i.to i.parts.entries.now)

  pub path_of_lean : (lean : Lean) → i.what ≡ what.Lean lean → IsNoPath (expr_in (valued x ts i))
  path_of_lean lean e = by_what IsNoPath _ e (lean_path x ts lean i.from i.to i.parts.entries.now)
