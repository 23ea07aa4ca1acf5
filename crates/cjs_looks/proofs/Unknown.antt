-- What no view knows is in no role: no expression, no further part, no arguments, no key, no property. Any promise holds
-- of a part that isn't there.
use Rattle.std.specs.Prelude.{ℕ, Bool, true, false, List, Option, Some, None, if◌then◌else◌}
use Rattle.std.proofs.Common.{◌≡◌, refl, sym, ap, subst, ◌∙◌}
use denote.Enum.Bare.{same_true}
use Rattle.base.specs.declared.range.Range.{Range}
use Rattle.es_token.specs.declared.token.Token.{Token}
use Rattle.es_ast.specs.declared.ast.Expr.{Expr}
use Rattle.es_ast.specs.declared.ast.Prop.{Prop}
use Rattle.es_grammar.specs.contracts.rows.NodeKind.{the_type}
use Rattle.es_grammar.specs.declared.rows.NodeKind.{NodeKind}
use Rattle.es_grammar.specs.declared.rows.NodeKind.TheVariants as l
use Rattle.es_lowering.specs.Value.{Value, absent, part, as_group, post_at, prop_at}
use Rattle.es_lowering.specs.Expressions.{Post}
use Rattle.es_lowering.specs.Lowering.{same_label, build, expr_of, post_of, args_of, key_of, prop_of}
use Rattle.es_syntax.specs.declared.entry.Entry.{Entry}
use Rattle.es_syntax.specs.declared.entry.What.{What}
use Rattle.es_syntax.specs.declared.entry.What.TheVariants as vWhat
use Rattle.es_syntax.specs.declared.cursor.Item.{Item}
use Rattle.es_syntax.specs.Held.{held, made, parts_of, valued}
use Rattle.es_syntax.specs.Roles.{expr_in, post_in, args_in, key_in, prop_in}
use Rattle.es_syntax.specs.Views.{IsNone, is_one_of}
use Rattle.es_syntax.proofs.Others.{in_held, in_role}
use Rattle.es_view_expressions.specs.expr.Primary.{primaries}
use Rattle.es_view_expressions.specs.operator.Operator.{operators}
use Rattle.es_view_expressions.specs.call.Call.{calls}
use Rattle.es_view_expressions.specs.call.Post.{posts}
use Rattle.es_view_expressions.specs.call.Args.{argument_labels}
use Rattle.es_view_expressions.specs.function.Function.{functions}
use Rattle.es_view_expressions.specs.member.Key.{keys}
use Rattle.es_view_expressions.specs.member.Prop.{props}
use Rattle.es_bound_names.proofs.Others.{past, no_role}
use Rattle.cjs_facts.specs.Looks.{Name, other, is_harmless}
use Rattle.cjs_looks.specs.declared.objects.properties.Property.{Property}
use Rattle.cjs_looks.specs.objects.Properties.{key_says, IsProperty}
use Rattle.cjs_looks.specs.Odd.{All, Linked, IsNothing}
use Rattle.cjs_looks.specs.Posts.{Makes}
use Rattle.cjs_looks.specs.Seen.{Tells}
use Rattle.cjs_looks.proofs.Others.{all_plain, lean_is}

-- ---- alternatives
is_not : (labels : List NodeKind) (label : NodeKind) → is_one_of labels label ≡ false → (one : NodeKind)
    → is_one_of labels one ≡ true → same_label label one ≡ false
is_not labels label none one is = go (same_label label one) refl
  where
    go : (b : Bool) → same_label label one ≡ b → same_label label one ≡ false
    go false e = e
    go true e =
        let same : label ≡ one = same_true the_type tt label one e in
        let not_so : true ≡ false = sym (ap (is_one_of labels) same ∙ is) ∙ none in
        let bad : ⊥ = cc in
        absurd bad

skip : {A : Type 0} (b : Bool) (o others : Option A) → b ≡ false → others ≡ None → (if b then o else others) ≡ None
skip true o others e rest = let bad : ⊥ = cc in absurd bad
skip false o others e rest = rest

-- ---- what is told of nothing
all_none : (P : Expr → Type 0) (o : Option Expr) → o ≡ None → All P o
all_none P o e = subst (λ (o : Option Expr). All P o) (sym e) (record { all = tt })

tells_no : {A B : Type 0} (f : A → B) (o : Option A) (told : B) → o ≡ None → Tells f o told
tells_no f None told e = record { told = tt }
tells_no f (Some a) told e = let bad : ⊥ = cc in absurd bad

makes_no : (before after : Expr → Type 0) (o : Option Post) → o ≡ None → Makes before after o
makes_no before after o e = subst (λ (o : Option Post). Makes before after o) (sym e) (record { makes = tt })

module _ (x : List ℕ) (ts : List Token) where
  -- ---- expressions
  no_expr : (label : NodeKind) (from : ℕ) (r : Range) (v : Value) → is_one_of primaries label ≡ false
      → is_one_of operators label ≡ false → is_one_of calls label ≡ false → is_one_of functions label ≡ false
      → expr_of x ts label from r v ≡ None
  unfolding expr_of
  no_expr label from r v p o c f =
      skip (same_label label l.Name) _ _ (is_not primaries label p l.Name refl) (
      skip (same_label label l.Word) _ _ (is_not primaries label p l.Word refl) (
      skip (same_label label l.Number) _ _ (is_not primaries label p l.Number refl) (
      skip (same_label label l.Str) _ _ (is_not primaries label p l.Str refl) (
      skip (same_label label l.RegExp) _ _ (is_not primaries label p l.RegExp refl) (
      skip (same_label label l.Template) _ _ (is_not primaries label p l.Template refl) (
      skip (same_label label l.TemplateParts) _ _ (is_not primaries label p l.TemplateParts refl) (
      skip (same_label label l.Parenthesized) _ _ (is_not primaries label p l.Parenthesized refl) (
      skip (same_label label l.ArrayLiteral) _ _ (is_not primaries label p l.ArrayLiteral refl) (
      skip (same_label label l.ObjectLiteral) _ _ (is_not primaries label p l.ObjectLiteral refl) (
      skip (same_label label l.Spread) _ _ (is_not primaries label p l.Spread refl) (
      skip (same_label label l.Function) _ _ (is_not functions label f l.Function refl) (
      skip (same_label label l.AsyncFunction) _ _ (is_not functions label f l.AsyncFunction refl) (
      skip (same_label label l.Class) _ _ (is_not functions label f l.Class refl) (
      skip (same_label label l.Super) _ _ (is_not calls label c l.Super refl) (
      skip (same_label label l.ImportCall) _ _ (is_not calls label c l.ImportCall refl) (
      skip (same_label label l.SourceCall) _ _ (is_not calls label c l.SourceCall refl) (
      skip (same_label label l.DeferCall) _ _ (is_not calls label c l.DeferCall refl) (
      skip (same_label label l.ImportMeta) _ _ (is_not calls label c l.ImportMeta refl) (
      skip (same_label label l.NewTarget) _ _ (is_not calls label c l.NewTarget refl) (
      skip (same_label label l.New) _ _ (is_not calls label c l.New refl) (
      skip (same_label label l.Chain) _ _ (is_not calls label c l.Chain refl) (
      skip (same_label label l.UpdatePrefix) _ _ (is_not operators label o l.UpdatePrefix refl) (
      skip (same_label label l.UpdatePostfix) _ _ (is_not operators label o l.UpdatePostfix refl) (
      skip (same_label label l.UnaryExpression) _ _ (is_not operators label o l.UnaryExpression refl) (
      skip (same_label label l.AwaitExpression) _ _ (is_not operators label o l.AwaitExpression refl) (
      skip (same_label label l.Binary) _ _ (is_not operators label o l.Binary refl) (
      skip (same_label label l.PrivateIn) _ _ (is_not operators label o l.PrivateIn refl) (
      skip (same_label label l.Conditional) _ _ (is_not operators label o l.Conditional refl) (
      skip (same_label label l.Assignment) _ _ (is_not operators label o l.Assignment refl) (
      skip (same_label label l.PatternAssignment) _ _ (is_not operators label o l.PatternAssignment refl) (
      skip (same_label label l.Yield) _ _ (is_not operators label o l.Yield refl) (
      skip (same_label label l.NameArrow) _ _ (is_not functions label f l.NameArrow refl) (
      skip (same_label label l.ParenthesizedArrow) _ _ (is_not functions label f l.ParenthesizedArrow refl) (
      skip (same_label label l.AsyncNameArrow) _ _ (is_not functions label f l.AsyncNameArrow refl) (
      skip (same_label label l.AsyncParenthesizedArrow) _ _ (is_not functions label f l.AsyncParenthesizedArrow refl) (
      skip (same_label label l.Sequence) _ _ (is_not operators label o l.Sequence refl) (
      skip (same_label label l.TypedFunction) _ _ (is_not functions label f l.TypedFunction refl) (
      skip (same_label label l.TypedAsyncFunction) _ _ (is_not functions label f l.TypedAsyncFunction refl) (
      skip (same_label label l.TypedClass) _ _ (is_not functions label f l.TypedClass refl) (
      skip (same_label label l.AbstractClass) _ _ (is_not functions label f l.AbstractClass refl) (
      skip (same_label label l.TypedNew) _ _ (is_not calls label c l.TypedNew refl) (
      skip (same_label label l.TypedBinary) _ _ (is_not operators label o l.TypedBinary refl) (
      skip (same_label label l.TypeAssertion) _ _ (is_not operators label o l.TypeAssertion refl) (
      skip (same_label label l.TypedParenthesizedArrow) _ _ (is_not functions label f l.TypedParenthesizedArrow refl) (
      skip (same_label label l.TypedAsyncParenthesizedArrow) _ _ (is_not functions label f l.TypedAsyncParenthesizedArrow refl) (
      refl))))))))))))))))))))))))))))))))))))))))))))))

  expr_node : (label : NodeKind) (from : ℕ) (r : Range) (v : Value) → is_one_of primaries label ≡ false
      → is_one_of operators label ≡ false → is_one_of calls label ≡ false → is_one_of functions label ≡ false
      → (build x ts label from r v).expr ≡ None
  unfolding build
  expr_node label from r v p o c f = no_expr label from r v p o c f

  expr_here : (w : What) (from to : ℕ) (es : List Entry) → IsNone primaries w → IsNone operators w → IsNone calls w
      → IsNone functions w → All IsNothing (expr_in (made x ts w from to (held x ts es) (parts_of x ts es)))
  expr_here vWhat.Leaf from to es p o c f = record { all = tt }
  expr_here (vWhat.Node label) from to es p o c f =
      all_none IsNothing _ (expr_node label from _ (held x ts es) p o c f)
  expr_here (vWhat.Role label) from to es p o c f =
      all_none IsNothing _ (in_role x ts (λ m. m.expr) (λ e. refl) (part (held x ts es) 0))
  expr_here vWhat.Parts from to es p o c f = all_none IsNothing _ (in_held x ts (λ m. m.expr) es)
  expr_here (vWhat.Lean lean) from to es p o c f = lean_is x ts lean from (parts_of x ts es)

  -- what neither of these views knows is a chain of operators, or no expression
  nothing_else : (i : Item) → IsNone primaries i.what → IsNone operators i.what → IsNone calls i.what
      → IsNone functions i.what → All IsNothing (expr_in (valued x ts i))
  nothing_else i p o c f = expr_here i.what i.from i.to i.parts.entries.now p o c f

  pub plain_else : (i : Item) → IsNone primaries i.what → IsNone operators i.what → IsNone calls i.what
      → IsNone functions i.what → All (Linked other) (expr_in (valued x ts i))
  plain_else i p o c f = all_plain _ (nothing_else i p o c f)

  harms_by : (o : Option Expr) → All IsNothing o → Tells is_harmless o false
  harms_by None a = record { told = tt }
  harms_by (Some e) a = record { told = a.all.1 }

  pub harms_else : (i : Item) → IsNone primaries i.what → IsNone operators i.what → IsNone calls i.what
      → IsNone functions i.what → Tells is_harmless (expr_in (valued x ts i)) false
  harms_else i p o c f = harms_by _ (nothing_else i p o c f)

  -- ---- further parts
  post_node : (label : NodeKind) (from : ℕ) (r : Range) (v : Value) → is_one_of posts label ≡ false
      → (build x ts label from r v).post ≡ None
  unfolding build post_of
  post_node label from r v e =
      past (same_label label l.MemberPost) _ _ _ e (λ e.
      past (same_label label l.IndexPost) _ _ _ e (λ e.
      past (same_label label l.CallPost) _ _ _ e (λ e.
      past (same_label label l.TemplatePost) _ _ _ e (λ e.
      past (same_label label l.OptionalPost) _ _ _ e (λ e.
      past (same_label label l.TypedCallPost) _ _ _ e (λ e.
      past (same_label label l.TypedTemplatePost) _ _ _ e (λ e.
      past (same_label label l.TypedOptionalPost) _ _ _ e (λ e.
      past (same_label label l.NonNullPost) _ _ _ e (λ e. refl)))))))))

  pub no_post : (i : Item) → IsNone posts i.what → post_in (valued x ts i) ≡ None
  no_post i e =
      no_role x ts (λ m. m.post) posts post_node refl refl (λ e. refl) i.what i.from i.to i.parts.entries.now e

  pub makes_unknown : (before after : Expr → Type 0) (i : Item) → IsNone posts i.what
      → Makes before after (post_in (valued x ts i))
  makes_unknown before after i e = makes_no before after _ (no_post i e)

  -- ---- arguments
  args_node : (label : NodeKind) (from : ℕ) (r : Range) (v : Value) → is_one_of argument_labels label ≡ false
      → (build x ts label from r v).args ≡ None
  unfolding build args_of
  args_node label from r v e = past (same_label label l.Arguments) _ _ _ e (λ e. refl)

  pub no_args : (i : Item) → IsNone argument_labels i.what → args_in (valued x ts i) ≡ None
  no_args i e =
      no_role x ts (λ m. m.args) argument_labels args_node refl refl (λ e. refl) i.what i.from i.to
      i.parts.entries.now e

  pub tells_unknown : {B : Type 0} (f : List Expr → B) (told : B) (i : Item) → IsNone argument_labels i.what
      → Tells f (args_in (valued x ts i)) told
  tells_unknown f told i e = tells_no f _ told (no_args i e)

  -- ---- keys
  key_node : (label : NodeKind) (from : ℕ) (r : Range) (v : Value) → is_one_of keys label ≡ false
      → (build x ts label from r v).key ≡ None
  unfolding build key_of
  key_node label from r v e =
      past (same_label label l.WordKey) _ _ _ e (λ e.
      past (same_label label l.StrKey) _ _ _ e (λ e.
      past (same_label label l.NumberKey) _ _ _ e (λ e.
      past (same_label label l.ComputedKey) _ _ _ e (λ e.
      past (same_label label l.PrivateKey) _ _ _ e (λ e. refl)))))

  pub says_unknown : (told : Option Name) (i : Item) → IsNone keys i.what → Tells key_says (key_in (valued x ts i)) told
  says_unknown told i e =
      tells_no key_says _ told
      (no_role x ts (λ m. m.key) keys key_node refl refl (λ e. refl) i.what i.from i.to i.parts.entries.now e)

  -- ---- properties
  prop_node : (label : NodeKind) (from : ℕ) (r : Range) (v : Value) → is_one_of props label ≡ false
      → (build x ts label from r v).prop ≡ None
  unfolding build prop_of
  prop_node label from r v e =
      skip (same_label label l.SpreadProperty) _ _ (is_not props label e l.SpreadProperty refl) (
      skip (same_label label l.AccessorProperty) _ _ (is_not props label e l.AccessorProperty refl) (
      skip (same_label label l.AsyncProperty) _ _ (is_not props label e l.AsyncProperty refl) (
      skip (same_label label l.GeneratorProperty) _ _ (is_not props label e l.GeneratorProperty refl) (
      skip (same_label label l.MethodProperty) _ _ (is_not props label e l.MethodProperty refl) (
      skip (same_label label l.KeyValue) _ _ (is_not props label e l.KeyValue refl) (
      skip (same_label label l.Shorthand) _ _ (is_not props label e l.Shorthand refl) (
      skip (same_label label l.TypedAccessorProperty) _ _ (is_not props label e l.TypedAccessorProperty refl) (
      skip (same_label label l.TypedAsyncProperty) _ _ (is_not props label e l.TypedAsyncProperty refl) (
      skip (same_label label l.TypedGeneratorProperty) _ _ (is_not props label e l.TypedGeneratorProperty refl) (
      skip (same_label label l.TypedMethodProperty) _ _ (is_not props label e l.TypedMethodProperty refl) (
      refl)))))))))))

  no_property : (told : Property) (o : Option Prop) → o ≡ None → IsProperty x ts told o
  no_property told o e = subst (λ (o : Option Prop). IsProperty x ts told o) (sym e) (record { is = tt })

  pub property_unknown : (told : Property) (i : Item) → IsNone props i.what
      → IsProperty x ts told (prop_in (valued x ts i))
  property_unknown told i e =
      no_property told _
      (no_role x ts (λ m. m.prop) props prop_node refl refl (λ e. refl) i.what i.from i.to i.parts.entries.now e)

  -- ---- a turn without a part
  pub property_absent : (told : Property) (u g : Value) → g ≡ as_group u → part g 0 ≡ absent
      → IsProperty x ts told (prop_at (as_group u) 0)
  property_absent told u g is e =
      no_property told _ (ap prop_in (ap (λ (g : Value). part g 0) (sym is) ∙ e))

pub makes_absent : (before after : Expr → Type 0) (u g : Value) → g ≡ as_group u → part g 0 ≡ absent
    → Makes before after (post_at (as_group u) 0)
makes_absent before after u g is e =
    makes_no before after _ (ap post_in (ap (λ (g : Value). part g 0) (sym is) ∙ e))
