-- What the rules make of declarators, by their patterns.
use Rattle.std.specs.Prelude.{ℕ, ◌+◌, Bool, false, List, Option, Some, None, option_map}
use Rattle.std.proofs.Common.{◌≡◌, sym, ap, subst, ◌∙◌}
use Rattle.base.specs.declared.range.Range.{Range}
use Rattle.es_token.specs.declared.token.Token.{Token}
use Rattle.es_ast.specs.declared.ts.leaf.Ident.{Ident}
use Rattle.es_ast.specs.declared.ts.ts.TsPart.{TsPart}
use Rattle.es_ast.specs.declared.ast.Expr.{Expr}
use Rattle.es_ast.specs.declared.ast.Pat.{Pat, roll-Pat, out-Pat, out-roll-Pat}
use Rattle.es_ast.specs.declared.ast.Pat.TheVariants as vPat
use Rattle.es_ast.specs.declared.ast.ClassMember.TheOpen.{Pat-F}
use Rattle.es_site.specs.Parts.{Whole}
use Rattle.es_lowering.specs.Value.{Value, turns, pat_at, pat_prop_at}
use Rattle.es_lowering.specs.Texts.{ident_of}
use Rattle.es_lowering.specs.Expressions.{elements}
use Rattle.es_lowering.specs.TypeTexts as type_texts
use Rattle.es_syntax.specs.Roles.{marked_in}
use Rattle.es_view_expressions.specs.pattern.Marked as marked_view
use Rattle.es_view_statements.specs.param.Param.{Marked}
use Rattle.dts_rules.specs.declared.found.FoundKind.TheVariants as kind
use Rattle.dts_rules.specs.Made.{annotation}
use Rattle.dts_rules.specs.Rules.{Env, Shown, ShownDeclarator, State, after, note}
use Rattle.dts_rules.specs.Programs.{shown_declarator, shown_expr, variable}
use Rattle.dts_rules.proofs.Shown.{at_declarator}
use Rattle.dts_draft.specs.Written.{IfThere}
use Rattle.dts_draft.proofs.There.{made as made_there}
use Rattle.dts_variables.specs.Declarators.{declarator_by, value_type}

module _ (by : Env) where
  abbrev shown_value : Option Expr → Option (Expr × Shown)
  shown_value init = option_map (λ (e : Expr). (e, shown_expr by e)) init

  -- a declarator of this pattern
  rule_by : (r : Range) (d : Bool) (init : Option Expr) (pat : Pat) (w : Whole Pat-F) → roll-Pat w ≡ pat → (s : State)
      → shown_declarator by (declarator_by r d init pat) s
      ≡ after (declarator_by r d None) (variable by w pat r (shown_value init) s)
  rule_by r d None pat w rolls s =
      ap (λ (f : ShownDeclarator). f s)
      (at_declarator by (record { name = pat; definite = d; init = None; span = r }))
      ∙ ap (λ (w : Whole Pat-F). after (declarator_by r d None) (variable by w pat r None s))
      (ap out-Pat (sym rolls) ∙ out-roll-Pat w)
  rule_by r d (Some e) pat w rolls s =
      ap (λ (f : ShownDeclarator). f s)
      (at_declarator by (record { name = pat; definite = d; init = Some e; span = r }))
      ∙ ap (λ (w : Whole Pat-F). after (declarator_by r d None) (variable by w pat r (Some (e, shown_expr by e)) s))
      (ap out-Pat (sym rolls) ∙ out-roll-Pat w)

  -- a name with a type, and one without
  pub typed_name : (id : Ident) (part : TsPart) (place r : Range) (d : Bool) (init : Option Expr) (s : State)
      → shown_declarator by (declarator_by r d init (vPat.Ident id (Some part) place)) s
      ≡ (declarator_by r d None (vPat.Ident id (Some part) place), s)
  typed_name id part place r d init s =
      rule_by r d init (vPat.Ident id (Some part) place) (Pat-F.Pat::Ident id (Some part) place)
      (vPat.rolls-Ident id (Some part) place) s

  bare_name : (id : Ident) (place r : Range) (d : Bool) (init : Option Expr) (s : State)
      → shown_declarator by (declarator_by r d init (vPat.Ident id None place)) s
      ≡ after (λ ty. declarator_by r d None (vPat.Ident id (annotation ty) place)) (value_type by id.span init s)
  bare_name id place r d init s =
      rule_by r d init (vPat.Ident id None place) (Pat-F.Pat::Ident id None place) (vPat.rolls-Ident id None place) s

  pub untyped_name : (x : List ℕ) (t : Token) (mark : Bool) (place r : Range) (d : Bool) (init : Option Expr)
      (s : State)
      → shown_declarator by
      (declarator_by r d init (vPat.Ident (type_texts.marked mark (ident_of x t)) None place)) s
      ≡ after (λ ty. declarator_by r d None
      (vPat.Ident (type_texts.marked mark (ident_of x t)) (annotation ty) place)) (value_type by t.range init s)
  unfolding ident_of
  untyped_name x t mark place r d init s = bare_name (type_texts.marked mark (ident_of x t)) place r d init s

  -- an array or an object
  abbrev pub Other : Marked → Type 0
  Other k =
      (a : Option TsPart) (place r : Range) (d : Bool) (init : Option Expr) (s : State)
      → shown_declarator by (declarator_by r d init (k false a place)) s
      ≡ (declarator_by r d None (k false a place), note kind.UnableToInferType r s)

  pub other_array : (ts : List Token) (from : ℕ) (elems v : Value) → marked_in v ≡ marked_view.array ts from elems
      → IfThere Other (marked_in v)
  unfolding marked_view.array
  other_array ts from elems v e =
      subst (λ (o : Option Marked). IfThere Other o) (sym e)
      (made_there Other (λ elems mark ty r. vPat.Array elems mark ty r)
      (elements vPat.Hole pat_at ts (from + 1) elems)
      (λ elems a place r d init s.
      rule_by r d init (vPat.Array elems false a place) (Pat-F.Pat::Array elems false a place)
      (vPat.rolls-Array elems false a place) s))

  pub other_object : (props v : Value) → marked_in v ≡ marked_view.object props → IfThere Other (marked_in v)
  unfolding marked_view.object
  other_object props v e =
      subst (λ (o : Option Marked). IfThere Other o) (sym e)
      (made_there Other (λ props mark ty r. vPat.Object props mark ty r)
      (turns (λ turn. pat_prop_at turn 0) props)
      (λ props a place r d init s.
      rule_by r d init (vPat.Object props false a place) (Pat-F.Pat::Object props false a place)
      (vPat.rolls-Object props false a place) s))
