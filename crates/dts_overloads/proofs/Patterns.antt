-- What patterns, parameters and keys tell.
use Rattle.std.specs.Prelude.{ℕ, ◌+◌, ◌-◌, Bool, true, false, List, [], ◌∷◌, ◌++◌, Option, Some, None, option_map}
use Rattle.std.proofs.Common.{◌≡◌, refl, sym, ap, ◌∙◌}
use Rattle.dts_overloads.proofs.Laws.{or_none, or_assoc}
use Rattle.base.specs.declared.range.Range.{Range}
use Rattle.es_token.specs.declared.token.Token.{Token}
use Rattle.es_ast.specs.declared.ts.ts.TsPart.{TsPart}
use Rattle.es_ast.specs.declared.leaf.Modifiers.{Modifiers}
use Rattle.es_ast.specs.declared.leaf.Lit.TheVariants as vLit
use Rattle.es_ast.specs.declared.ast.Expr.{Expr}
use Rattle.es_ast.specs.declared.ast.Expr.TheVariants as vExpr
use Rattle.es_ast.specs.declared.ast.Pat.{Pat}
use Rattle.es_ast.specs.declared.ast.Pat.TheVariants as vPat
use Rattle.es_ast.specs.declared.ast.ObjectPatProp.TheVariants as vPatProp
use Rattle.es_ast.specs.declared.ast.Param.{Param, out-roll-Param}
use Rattle.es_ast.specs.declared.ast.ClassMember.TheOpen.{Param-F}
use Rattle.es_site.specs.Parts.{Whole}
use Rattle.es_lowering.specs.Value.{Value, Typed, given, part, as_group, group, typed, option_list, first_of, behind, optional, is_there, turns, expr_at, pat_at, param_at, pat_prop_at, params_at, key_at, marked_at}
use Rattle.es_lowering.specs.Value as v
use Rattle.es_lowering.specs.Texts.{span_of, token_at, ident_at, private_at, str_at, numeric_at}
use Rattle.es_lowering.specs.TypeTexts.{marked as with_mark}
use Rattle.es_lowering.specs.TypeNames.{behind_in}
use Rattle.es_lowering.specs.Expressions.{element_of, behind_element, elements}
use Rattle.es_lowering.specs.Patterns.{ident_pat, with_default}
use Rattle.es_lowering.specs.Patterns as low
use Rattle.es_lowering.specs.Functions.{plain, param_of, rest_of, rest_at}
use Rattle.es_lowering.specs.Functions as low_functions
use Rattle.es_lowering.specs.TypedParts.{annotation_at, marked_by, modifiers_in, params_part_at, param_by, typed_span, tailed_span, tailed_at, typed_rest_at, typed_rest_of}
use Rattle.es_lowering.specs.TypedParts as typed_parts
use Rattle.dts_overloads.specs.Among.{none, ◌∪◌, all_of, Among, if_some, of_expr, of_object_pat_prop, of_param, of_pat}
use Rattle.dts_overloads.proofs.Equations as laws
use Rattle.dts_overloads.specs.declared.shapes.Group.TheVariants as gr
use Rattle.dts_overloads.specs.declared.shapes.Shape.TheVariants as sh
use Rattle.dts_overloads.specs.Met.{Told, both, Met, absent, nil, more, token, node, one, rows, each, met}
use Rattle.dts_overloads.proofs.Seen.{Sees, both_none, moved, ends, alone, past, also, single, mapped, more_told, quiet, skipped}
use Rattle.dts_overloads.proofs.Agrees.{key_among, params_among, Said, Agree, first, nth, read, parts, parts_in, rows_are, in_first}
use Rattle.dts_overloads.proofs.Roles.{AgreeRow, expr, pat, params, key, marked, maybe_expr, all_params, pat_props}
use Rattle.dts_overloads.proofs.Statements.{marked_is}

-- ---- lists
pub flat_both : {A : Type 0} (f : A → Among) (xs bs : List A) → all_of f (xs ++ bs) ≡ all_of f xs ∪ all_of f bs
flat_both f [] bs = refl
flat_both f (a ∷ xs) bs =
    ap (λ (z : Among). f a ∪ z) (flat_both f xs bs) ∙ sym (or_assoc (f a) (all_of f xs) (all_of f bs))

pub list_among : {A : Type 0} (f : A → Among) (o : Option A) → all_of f (option_list o) ≡ if_some f o
list_among f None = refl
list_among f (Some a) = or_none (f a)

-- ---- elements of an array: where nothing stands between two commas there is a hole
module _ {A : Type 0} (f : A → Among) (hole : Range → A) (empty : (r : Range) → f (hole r) ≡ none)
    (role : Typed → Option A) (said : (m : Typed) (told : Told) → Said m told → Sees f (role m) told)
    (ts : List Token) where
  abbrev at_part : Value → ℕ → Option A
  at_part p n = given (typed (part p n)) role

  element_in : (at : ℕ) (u : Value) (w : Met) → Agree u w
      → Sees f (element_of hole at_part ts at (as_group u)) (met w (rows (sh.Node ∷ [])))
  element_in at (v.more b bs) (more c cs) a = in_first f role said (v.more b bs) (more c cs) a
  element_in at v.absent absent a = record { sees = ap Some (sym (empty (span_of ts at at))) }
  element_in at v.nil nil a = record { sees = ap Some (sym (empty (span_of ts at at))) }
  element_in at (v.token n) token a = record { sees = ap Some (sym (empty (span_of ts at at))) }
  element_in at (v.node from to m) (node told) a = record { sees = ap Some (sym (empty (span_of ts at at))) }
  element_in at _ _ a = absurd a

  element_sees : (at : ℕ) (u : Value) (w : Met) → Agree u w
      → Sees f (element_of hole at_part ts at (group (as_group u) 0)) (met w (rows (sh.In gr.First ∷ [])))
  element_sees at u w a =
      moved f _ _ _ (rows_are (sh.In gr.First ∷ []) refl w ∙ both_none (met (first w) (rows (sh.Node ∷ []))))
      (element_in at (part (as_group u) 0) (first w) (parts_in u w a 0))

  elements_see : (at : ℕ) (u : Value) (w : Met) → Agree u w
      → Sees (all_of f) (elements hole at_part ts at u) (met w (each (sh.In gr.First ∷ [])))
  elements_see at (v.more b bs) (more c cs) a =
      more_told f _ _ _ _ (element_sees at b c a.0)
      (elements_see (behind_element at (group (as_group b) 0)) bs cs a.1)
  elements_see at v.absent absent a = record { sees = refl }
  elements_see at v.nil nil a = record { sees = refl }
  elements_see at (v.token n) token a = record { sees = refl }
  elements_see at (v.node from to m) (node told) a = record { sees = refl }
  elements_see at _ _ a = absurd a

  pub elements_in : (at : ℕ) (u : Value) (w : Met) → Agree u w
      → Sees (all_of f) (elements hole at_part ts at (as_group u)) (met w (each (sh.In gr.First ∷ [])))
  elements_in at (v.more b bs) (more c cs) a = elements_see at (v.more b bs) (more c cs) a
  elements_in at v.absent absent a = record { sees = refl }
  elements_in at v.nil nil a = record { sees = refl }
  elements_in at (v.token n) token a = record { sees = refl }
  elements_in at (v.node from to m) (node told) a = record { sees = refl }
  elements_in at _ _ a = absurd a

-- ---- patterns
pub default_among : (r : Range) (pat : Pat) (value : Option Expr)
    → of_pat (with_default r pat value) ≡ of_pat pat ∪ if_some of_expr value
default_among r pat None = sym (or_none (of_pat pat))
default_among r pat (Some value) = laws.pat_Assign pat value r

module _ (x : List ℕ) (ts : List Token) (p : Value) (q : Met) (a : AgreeRow p q) where
  pub name_pattern : Sees of_pat (low.name_pattern x ts p) (Some none)
  unfolding low.name_pattern
  name_pattern = quiet (ident_pat x) (λ t. laws.pat_Ident _ None _) (token_at ts p 0)

  targets : (at : ℕ)
      → Sees (all_of of_pat) (elements vPat.Hole pat_at ts at (group p 0))
      (met (nth q 0) (each (sh.In gr.First ∷ [])))
  targets at =
      elements_in of_pat vPat.Hole (λ r. laws.pat_Hole r) (λ m. m.pat) (λ m t s. s.pat) ts at (part p 0)
      (nth q 0) (a 0)

  pub array_pattern : (from : ℕ) (r : Range)
      → Sees of_pat (low.array_pattern ts from r p) (read q (sh.Each gr.Element ∷ []))
  unfolding low.array_pattern
  array_pattern from r =
      single _ _ (mapped (λ elems. vPat.Array elems false None r) (λ elems. laws.pat_Array elems false None r)
      (elements vPat.Hole pat_at ts (from + 1) (group p 0)) (targets (from + 1)))

  pub object_pattern : (r : Range) → Sees of_pat (low.object_pattern r p) (read q (sh.Each gr.First ∷ []))
  unfolding low.object_pattern
  object_pattern r =
      single _ _ (mapped (λ props. vPat.Object props false None r) (λ props. laws.pat_Object props false None r)
      (turns (λ turn. pat_prop_at turn 0) (group p 0)) (pat_props p q a 0))

  pub rest_pattern : (r : Range) → Sees of_pat (low.rest_pattern r p) (read q (sh.Node ∷ []))
  unfolding low.rest_pattern
  rest_pattern r =
      single _ _ (mapped (λ arg. vPat.Rest arg None r) (λ arg. laws.pat_Rest arg None r) (pat_at p 0) (pat p q a 0))

  pub default_pattern : (r : Range) → Sees of_pat (low.default_pattern r p) (read q (sh.Node ∷ sh.Node ∷ []))
  unfolding low.default_pattern
  default_pattern r =
      alone _ (also (pat_at p 0) _ (pat p q a 0) (λ left. also (expr_at p 1) _ (expr p q a 1) (λ right.
      ends (vPat.Assign left right r) (laws.pat_Assign left right r))))

  -- with a mark and a type
  pub marked_name : (mark : Bool) (ty : Option TsPart) (r : Range)
      → Sees (λ (pat : Bool → Option TsPart → Range → Pat). of_pat (pat mark ty r))
      (typed_parts.marked_name x ts p) (Some none)
  unfolding typed_parts.marked_name
  marked_name mark ty r =
      quiet (λ id mark ty r. vPat.Ident (with_mark mark id) ty r) (λ id. laws.pat_Ident _ ty r) (ident_at x ts p 0)

  pub marked_array : (from : ℕ) (mark : Bool) (ty : Option TsPart) (r : Range)
      → Sees (λ (pat : Bool → Option TsPart → Range → Pat). of_pat (pat mark ty r))
      (typed_parts.marked_array ts from p) (read q (sh.Each gr.Element ∷ []))
  unfolding typed_parts.marked_array
  marked_array from mark ty r =
      single _ _ (mapped (λ elems mark ty r. vPat.Array elems mark ty r) (λ elems. laws.pat_Array elems mark ty r)
      (elements vPat.Hole pat_at ts (from + 1) (group p 0)) (targets (from + 1)))

  pub marked_object : (mark : Bool) (ty : Option TsPart) (r : Range)
      → Sees (λ (pat : Bool → Option TsPart → Range → Pat). of_pat (pat mark ty r))
      (typed_parts.marked_object p) (read q (sh.Each gr.First ∷ []))
  unfolding typed_parts.marked_object
  marked_object mark ty r =
      single _ _ (mapped (λ props mark ty r. vPat.Object props mark ty r) (λ props. laws.pat_Object props mark ty r)
      (turns (λ turn. pat_prop_at turn 0) (group p 0)) (pat_props p q a 0))

  -- ---- properties of object patterns
  pub rest_property : (r : Range) → Sees of_object_pat_prop (low.rest_property r p) (read q (sh.Node ∷ []))
  unfolding low.rest_property
  rest_property r =
      single _ _ (mapped (λ arg. vPatProp.Rest arg r) (λ arg. laws.object_pat_prop_Rest arg r) (pat_at p 0)
      (pat p q a 0))

  pub key_pattern : (r : Range)
      → Sees of_object_pat_prop (low.key_pattern ts r p) (read q (sh.Node ∷ sh.Node ∷ sh.In gr.First ∷ []))
  unfolding low.key_pattern
  key_pattern r =
      alone _ (also (key_at p 0) _ (key p q a 0) (λ key. also (pat_at p 1) _ (pat p q a 1) (λ pat.
      also (optional expr_at (group p 2)) _ (maybe_expr p q a 2) (λ value.
      ends (vPatProp.KeyValue key.0 key.1
      (with_default (span_of ts (first_of (part p 1)) (behind (part (group p 2) 0))) pat value) r)
      (laws.object_pat_prop_KeyValue key.0 key.1 _ r
      ∙ ap (λ (z : Among). key_among key ∪ z) (default_among _ pat value)
      ∙ sym (or_assoc (key_among key) (of_pat pat) (if_some of_expr value)))))))

  pub name_property : (r : Range)
      → Sees of_object_pat_prop (low.name_property x ts r p) (read q (sh.Skip ∷ sh.In gr.First ∷ []))
  unfolding low.name_property
  name_property r =
      alone _ (past (ident_at x ts p 0) _ (λ key.
      also (optional expr_at (group p 1)) _ (maybe_expr p q a 1) (λ value.
      ends (vPatProp.Assign key value r) (laws.object_pat_prop_Assign key value r))))

  -- ---- keys
  pub word_key : Sees key_among (low_functions.word_key x ts p) (Some none)
  unfolding low_functions.word_key
  word_key = quiet (λ name. (false, vExpr.Ident name)) (λ name. laws.expr_Ident name) (ident_at x ts p 0)

  pub str_key : Sees key_among (low_functions.str_key x ts p) (Some none)
  unfolding low_functions.str_key
  str_key = quiet (λ s. (false, vExpr.Lit (vLit.Str s))) (λ s. laws.expr_Lit _) (str_at x ts p 0)

  pub number_key : Sees key_among (low_functions.number_key x ts p) (Some none)
  unfolding low_functions.number_key
  number_key = quiet (λ lit. (false, vExpr.Lit lit)) (λ lit. laws.expr_Lit lit) (numeric_at x ts p 0)

  pub private_key : Sees key_among (low_functions.private_key x ts p) (Some none)
  unfolding low_functions.private_key
  private_key = quiet (λ name. (false, vExpr.PrivateName name)) (λ name. laws.expr_PrivateName name)
      (private_at x ts p 0)

  pub computed_key : Sees key_among (low_functions.computed_key p) (read q (sh.Node ∷ []))
  unfolding low_functions.computed_key
  computed_key = single _ _ (mapped (λ e. (true, e)) (λ e. refl) (expr_at p 0) (expr p q a 0))

-- ---- parameters
pub param_among : (modifiers : Modifiers) (r : Range) (pat : Pat)
    → of_param (param_by modifiers r pat) ≡ of_pat pat
param_among modifiers r pat =
    laws.param_roll (record { modifiers = modifiers; pat = pat; span = r })

pub bare_param : (r : Range) (o : Option Pat) (m : Told) → Sees of_pat o m
    → Sees of_param (option_map (param_of r) o) m
bare_param r o m s = mapped (param_of r) (λ pat. param_among plain r pat) o s

module _ (ts : List Token) where
  rest_sees : (u : Value) (w : Met) → Agree u w
      → Sees (if_some of_param) (optional (rest_at ts) (as_group u)) (met w (rows (sh.Node ∷ [])))
  rest_sees (v.more b bs) (more c cs) a =
      mapped Some (λ e. refl) (rest_at ts (v.more b bs) 0)
      (mapped (rest_of (span_of ts (first_of b - 1) (behind b)))
      (λ pat. param_among plain _ (vPat.Rest pat None _) ∙ laws.pat_Rest pat None _) (pat_at (v.more b bs) 0)
      (in_first of_pat (λ m. m.pat) (λ m t s. s.pat) (v.more b bs) (more c cs) a))
  rest_sees v.absent absent a = record { sees = refl }
  rest_sees v.nil nil a = record { sees = refl }
  rest_sees (v.token n) token a = record { sees = refl }
  rest_sees (v.node from to m) (node told) a = record { sees = refl }
  rest_sees _ _ a = absurd a

  typed_rest : (p : Value) (q : Met) → AgreeRow p q
      → Sees of_param (typed_rest_at ts p 0) (met q (rows (sh.Node ∷ [])))
  typed_rest p q a =
      moved of_param _ _ _ (rows_are (sh.Node ∷ []) refl q)
      (alone _ (also (pat_at p 0) _ (pat p q a 0) (λ pat. past (annotation_at p 1) _ (λ ty.
      ends (typed_rest_of (span_of ts (first_of (part p 0) - 1) (behind_in (group p 1) (behind (part p 0)))) pat ty)
      (param_among plain _ (vPat.Rest pat ty _) ∙ laws.pat_Rest pat ty _)))))

  typed_rest_sees : (u : Value) (w : Met) → Agree u w
      → Sees (if_some of_param) (optional (typed_rest_at ts) (as_group u)) (met w (rows (sh.Node ∷ [])))
  typed_rest_sees (v.more b bs) (more c cs) a =
      mapped Some (λ e. refl) (typed_rest_at ts (v.more b bs) 0)
      (typed_rest (v.more b bs) (more c cs) (parts (v.more b bs) (more c cs) a))
  typed_rest_sees v.absent absent a = record { sees = refl }
  typed_rest_sees v.nil nil a = record { sees = refl }
  typed_rest_sees (v.token n) token a = record { sees = refl }
  typed_rest_sees (v.node from to m) (node told) a = record { sees = refl }
  typed_rest_sees _ _ a = absurd a

  all_and_rest : (p : Value) (q : Met) → AgreeRow p q → (rest : Option (Option Param))
      → Sees (if_some of_param) rest (met (nth q 1) (rows (sh.Node ∷ [])))
      → Sees (all_of of_param)
      (given (turns (λ turn. param_at turn 0) (group p 0)) (λ all. given rest (λ rest. Some (all ++ option_list rest))))
      (read q (sh.Each gr.First ∷ sh.In gr.First ∷ []))
  all_and_rest p q a rest sees =
      alone _ (also (turns (λ turn. param_at turn 0) (group p 0)) _ (all_params p q a 0) (λ all.
      also rest _ sees (λ rest.
      ends (all ++ option_list rest)
      (flat_both of_param all (option_list rest)
      ∙ ap (λ (z : Among). all_of of_param all ∪ z) (list_among of_param rest)))))

  pub parameters_form : (p : Value) (q : Met) → AgreeRow p q
      → Sees (all_of of_param) (low_functions.parameters ts p) (read q (sh.Each gr.First ∷ sh.In gr.First ∷ []))
  unfolding low_functions.parameters
  parameters_form p q a =
      all_and_rest p q a (optional (rest_at ts) (group p 1)) (rest_sees (part p 1) (nth q 1) (a 1))

  pub typed_parameters : (p : Value) (q : Met) → AgreeRow p q
      → Sees (all_of of_param) (typed_parts.typed_parameters ts p)
      (read q (sh.Each gr.First ∷ sh.In gr.First ∷ []))
  unfolding typed_parts.typed_parameters
  typed_parameters p q a =
      all_and_rest p q a (optional (typed_rest_at ts) (group p 1)) (typed_rest_sees (part p 1) (nth q 1) (a 1))

module _ (ts : List Token) (p : Value) (q : Met) (a : AgreeRow p q) where
  pub default_parameter : (r : Range)
      → Sees of_param (low_functions.default_parameter r p) (read q (sh.Node ∷ sh.Node ∷ []))
  unfolding low_functions.default_parameter
  default_parameter r =
      alone _ (also (pat_at p 0) _ (pat p q a 0) (λ left. also (expr_at p 1) _ (expr p q a 1) (λ right.
      ends (param_of r (vPat.Assign left right r))
      (param_among plain r (vPat.Assign left right r) ∙ laws.pat_Assign left right r))))

  pub this_parameter : (r : Range)
      → Sees of_param (typed_parts.this_parameter ts r p)
      (read q (sh.Skip ∷ sh.Skip ∷ sh.Skip ∷ sh.In gr.First ∷ []))
  unfolding typed_parts.this_parameter
  this_parameter r =
      alone _ (past (token_at ts p 0) _ (λ t. past (annotation_at p 2) _ (λ ty.
      also (optional expr_at (group p 3)) _ (maybe_expr p q a 3) (λ value.
      ends (param_by plain r (with_default r
      (vPat.This ty (span_of ts (first_of (part p 0)) (behind_in (group p 2) (behind (part p 0))))) value))
      (param_among plain r _ ∙ default_among r _ value
      ∙ ap (λ (z : Among). z ∪ if_some of_expr value) (laws.pat_This ty _))))))

  -- a pattern with a mark, a type and a default
  tailed : (n : ℕ)
      → Sees of_pat (tailed_at ts p n)
      (both (met (nth q n) one) (both (met (nth q (n + 3)) (rows (sh.Node ∷ []))) (Some none)))
  tailed n =
      alone _ (past (annotation_at p (n + 2)) _ (λ ty.
      also (marked_by (marked_at p n) (is_there (group p (n + 1))) ty (typed_span ts p n)) _
      (marked_is (marked_at p n) _ (is_there (group p (n + 1))) ty (typed_span ts p n)
      (marked p q a n (is_there (group p (n + 1))) ty (typed_span ts p n))) (λ pat.
      also (optional expr_at (group p (n + 3))) _ (maybe_expr p q a (n + 3)) (λ value.
      ends (with_default (tailed_span ts p n) pat value) (default_among (tailed_span ts p n) pat value)))))

  pub marked_parameter : (r : Range)
      → Sees of_param (typed_parts.marked_parameter ts r p)
      (read q (sh.Node ∷ sh.Skip ∷ sh.Skip ∷ sh.In gr.First ∷ []))
  unfolding typed_parts.marked_parameter
  marked_parameter r = mapped (param_by plain r) (λ pat. param_among plain r pat) (tailed_at ts p 0) (tailed 0)

  pub property_parameter : (r : Range)
      → Sees of_param (typed_parts.property_parameter ts r p)
      (read q (sh.Skip ∷ sh.Node ∷ sh.Skip ∷ sh.Skip ∷ sh.In gr.First ∷ []))
  unfolding typed_parts.property_parameter
  property_parameter r =
      skipped (modifiers_in ts plain (group p 0)) _ (λ modifiers.
      mapped (param_by modifiers r) (λ pat. param_among modifiers r pat) (tailed_at ts p 1) (tailed 1))

  pub signature_params : Sees (all_of of_param) (low_functions.signature p) (read q (sh.Node ∷ []))
  unfolding low_functions.signature
  signature_params = single _ _ (params p q a 0)

  pub typed_signature : Sees params_among (typed_parts.typed_signature p) (read q (sh.Skip ∷ sh.Node ∷ []))
  unfolding typed_parts.typed_signature
  typed_signature =
      alone _ (past (params_part_at p 0) _ (λ type_params. also (params_at p 1) _ (params p q a 1) (λ params.
      past (annotation_at p 2) _ (λ result. ends (type_params, params, result) refl))))
