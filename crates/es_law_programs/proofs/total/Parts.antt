-- What is there of parts that may be absent, of lists, and of parts that are told by what stands in them.
use Rattle.std.specs.Prelude.{Bool, true, false, List, Option, Some, None}
use Rattle.std.proofs.Common.{◌≡◌, ◌⊎◌, ℕ, refl, sym, subst, inl, inr}
use Rattle.base.specs.declared.range.Range.{Range}
use Rattle.es_token.specs.declared.token.Token.{Token}
use Rattle.es_token.specs.declared.token.TokenKind.{TokenKind}
use Rattle.es_token.specs.declared.token.TokenKind.TheVariants as k
use Rattle.es_ast.specs.declared.ts.leaf.Ident.{Ident}
use Rattle.es_ast.specs.declared.ts.ts.TsPart.{TsPart}
use Rattle.es_ast.specs.declared.ts.ts.TsType.{TsType}
use Rattle.es_ast.specs.declared.ts.ts.TsParamPat.{TsParamPat}
use Rattle.es_ast.specs.declared.leaf.Modifiers.{Modifiers}
use Rattle.es_ast.specs.declared.ast.Stmt.{Stmt}
use Rattle.es_ast.specs.declared.ast.Stmt.TheVariants as vStmt
use Rattle.es_ast.specs.declared.ast.Expr.{Expr}
use Rattle.es_ast.specs.declared.ast.Pat.{Pat}
use Rattle.es_lowering.specs.Value.{Typed, Value, absent, nil, more, token, node, given, part, as_group, group, first_of, behind, optional, turns, expr_at, pat_at, stmt_at, item_at, args_at, marked_at, type_at, reference_at, arguments_at}
use Rattle.es_lowering.specs.Texts.{span_of, token_of, token_at, kind_at, str_at, property_of}
use Rattle.es_lowering.specs.Operators.{binary_between}
use Rattle.es_lowering.specs.TypeTexts.{signs, signed_by, signed_in}
use Rattle.es_lowering.specs.Expressions.{element_of, behind_element, elements, optional_inner, optional_of, yield_of}
use Rattle.es_lowering.specs.Functions.{block_or, body_of}
use Rattle.es_lowering.specs.Statements.{stmts_of, returned, behind_clause, clause_of, clauses, handled}
use Rattle.es_lowering.specs.TypeNames.{holds}
use Rattle.es_lowering.specs.TypePatterns as type_pats
use Rattle.es_lowering.specs.TypeMembers.{inner_key, bracket_key}
use Rattle.es_lowering.specs.Types.{indexed, bracket_end, indexes}
use Rattle.es_lowering.specs.TypedParts.{annotation_at, args_part_at, heritage_at, heritage_from, heritage_in, marked_by, annotated_at, annotated_span, with_modifier, modifiers_in, body_in}
use Rattle.es_lowering.specs.TypedExpressions.{typed_call, typed_optional_inner, typed_optional_of, asserted_by, turned_by}
use Rattle.es_lowering.specs.TypedStatements.{items_of, caught_in, typed_handled}
use Rattle.es_law_programs.proofs.total.Uses.{Use, as_expr, as_pat, as_stmt, as_item, as_block, as_args, as_marked, as_type, as_reference, as_arguments, as_entity, IsThere, HasAt}
use Rattle.es_law_programs.proofs.total.Needs.{Needs, rest, any, of, leaf, word, maybe, hollow, list, either_of, binary, MayMeet, EachTurn, IsAlone, Meets}
use Rattle.es_law_programs.proofs.total.Words.{given_there, map_there, listed_there, is_numeral, is_sign_op, computed_found, property_found}

-- a part that may be absent
pub optional_in : {A : Type 0} (M : Value → Type 0) (one : Value → ℕ → Option A)
    → ((g : Value) → M g → IsThere (one g 0)) → (w : Value) → MayMeet M w → IsThere (optional one (as_group w))
optional_in M one each (more v vs) h = map_there (one (more v vs) 0) Some (each (more v vs) h)
optional_in M one each absent h = absurd h
optional_in M one each nil h = tt
optional_in M one each (token n) h = absurd h
optional_in M one each (node from to m) h = absurd h

-- a list, by its turns
turns_there : {A : Type 0} (M : Value → Type 0) (one : Value → Option A) → ((g : Value) → M g → IsThere (one g))
    → (w : Value) → EachTurn (λ v. M (as_group v)) w → IsThere (turns one w)
turns_there M one each (more v vs) h =
    given_there (one (as_group v)) _ (each (as_group v) h.0) (λ a.
    given_there (turns one vs) _ (turns_there M one each vs h.1) (λ others. tt))
turns_there M one each absent h = tt
turns_there M one each nil h = tt
turns_there M one each (token n) h = tt
turns_there M one each (node from to m) h = tt

-- where the list is asked for as a group
grouped : (P : Value → Type 0) (w : Value) → P w → P nil → P (as_group w)
grouped P (more v vs) h e = h
grouped P absent h e = e
grouped P nil h e = e
grouped P (token n) h e = e
grouped P (node from to m) h e = e

pub turns_in : {A : Type 0} (M : Value → Type 0) (one : Value → Option A) → ((g : Value) → M g → IsThere (one g))
    → (w : Value) → EachTurn (λ v. M (as_group v)) w → IsThere (turns one (as_group w))
turns_in M one each w h = grouped (λ v. IsThere (turns one v)) w (turns_there M one each w h) tt

-- what isn't there isn't a value of several parts
no_value : {X : Type 0} (from to : ℕ) (m : Typed) → node from to m ≡ nil → X
no_value from to m e = absurd (let bad : ⊥ = cc in bad)

module _ (x : List ℕ) (ts : List Token) where
  -- ---- elements of arrays
  element_found : {A : Type 0} (u : Use) (hole : Range → A) (one : Value → ℕ → Option A)
      → ((v : Value) → HasAt u v → (vs : Value) → IsThere (one (more v vs) 0))
      → (at : ℕ) (g : Value) → MayMeet (λ v. Meets ts absent (of u rest) (part v)) g
      → IsThere (element_of hole one ts at (as_group g))
  element_found u hole one each at (more v vs) h = each v h.0 vs
  element_found u hole one each at absent h = absurd h
  element_found u hole one each at nil h = tt
  element_found u hole one each at (token n) h = absurd h
  element_found u hole one each at (node from to m) h = absurd h

  elements_there : {A : Type 0} (u : Use) (hole : Range → A) (one : Value → ℕ → Option A)
      → ((v : Value) → HasAt u v → (vs : Value) → IsThere (one (more v vs) 0))
      → (at : ℕ) (w : Value) → EachTurn (λ v. Meets ts absent (maybe (of u rest) rest) (part (as_group v))) w
      → IsThere (elements hole one ts at w)
  elements_there u hole one each at (more turn vs) h =
      given_there (element_of hole one ts at (group (as_group turn) 0)) _
      (element_found u hole one each at (part (as_group turn) 0) h.0.0) (λ a.
      given_there (elements hole one ts (behind_element at (group (as_group turn) 0)) vs) _
      (elements_there u hole one each (behind_element at (group (as_group turn) 0)) vs h.1) (λ others. tt))
  elements_there u hole one each at absent h = tt
  elements_there u hole one each at nil h = tt
  elements_there u hole one each at (token n) h = tt
  elements_there u hole one each at (node from to m) h = tt

  pub elements_in : {A : Type 0} (u : Use) (hole : Range → A) (one : Value → ℕ → Option A)
      → ((v : Value) → HasAt u v → (vs : Value) → IsThere (one (more v vs) 0))
      → (at : ℕ) (w : Value) → EachTurn (λ v. Meets ts absent (maybe (of u rest) rest) (part (as_group v))) w
      → IsThere (elements hole one ts at (as_group w))
  elements_in u hole one each at w h =
      grouped (λ v. IsThere (elements hole one ts at v)) w (elements_there u hole one each at w h) tt

  -- ---- bodies
  block_there : (r : Range) (stmts : Option (List Stmt)) (e : Option Expr) → IsThere stmts ⊎ IsThere e
      → IsThere (block_or r stmts e)
  block_there r (Some stmts) e h = tt
  block_there r None e (inl h) = absurd h
  block_there r None e (inr h) = map_there e _ h

  body_there : (v : Value) → HasAt as_block v ⊎ HasAt as_expr v → IsThere (body_of ts v)
  body_there (node from to m) h = block_there (span_of ts from to) m.block m.expr h
  body_there absent (inl h) = absurd h
  body_there absent (inr h) = absurd h
  body_there nil (inl h) = absurd h
  body_there nil (inr h) = absurd h
  body_there (more v vs) (inl h) = absurd h
  body_there (more v vs) (inr h) = absurd h
  body_there (token n) (inl h) = absurd h
  body_there (token n) (inr h) = absurd h

  pub body_found : (g : Value)
      → Meets ts absent (of as_block rest) (part g) ⊎ Meets ts absent (of as_expr rest) (part g)
      → IsThere (body_of ts (part g 0))
  body_found g (inl h) = body_there (part g 0) (inl h.0)
  body_found g (inr h) = body_there (part g 0) (inr h.0)

  stmt_body : (v vs : Value) → HasAt as_stmt v ⊎ (v ≡ nil) → IsThere (body_in (more v vs))
  stmt_body (node from to m) vs (inl h) = map_there m.stmt Some h
  stmt_body (node from to m) vs (inr h) = no_value from to m h
  stmt_body absent vs h = tt
  stmt_body nil vs h = tt
  stmt_body (more w ws) vs h = tt
  stmt_body (token n) vs h = tt

  pub stmt_body_found : (g : Value)
      → Meets ts absent (of as_stmt rest) (part g) ⊎ Meets ts absent (hollow rest) (part g) → IsThere (body_in g)
  stmt_body_found (more v vs) (inl h) = stmt_body v vs (inl h.0)
  stmt_body_found (more v vs) (inr h) = stmt_body v vs (inr h.0)
  stmt_body_found absent h = tt
  stmt_body_found nil h = tt
  stmt_body_found (token n) h = tt
  stmt_body_found (node from to m) h = tt

  -- ---- expressions
  pub yield_found : (r : Range) (g : Value) → MayMeet (λ v. Meets ts absent (any (of as_expr rest)) (part v)) g
      → IsThere (yield_of r (as_group g))
  yield_found r (more v vs) h = map_there (expr_at (more v vs) 1) _ h.1.0
  yield_found r absent h = absurd h
  yield_found r nil h = tt
  yield_found r (token n) h = absurd h
  yield_found r (node from to m) h = absurd h

  optional_behind : (r : Range) (v : Value) → HasAt as_args v ⊎ IsThere (token_of ts v)
      → IsThere (optional_inner x ts r v)
  optional_behind r (token n) (inl h) = absurd h
  optional_behind r (token n) (inr h) = map_there (given (token_of ts (token n)) (property_of x)) _
      (property_found x (token_of ts (token n)) h)
  optional_behind r (node from to m) (inl h) = map_there m.args _ h
  optional_behind r (node from to m) (inr h) = absurd h
  optional_behind r absent (inl h) = absurd h
  optional_behind r absent (inr h) = absurd h
  optional_behind r nil (inl h) = absurd h
  optional_behind r nil (inr h) = absurd h
  optional_behind r (more v vs) (inl h) = absurd h
  optional_behind r (more v vs) (inr h) = absurd h

  -- behind `?.`: an index, or a group of arguments or a name
  abbrev IsInner : Value → Type 0
  IsInner v = Meets ts absent (of as_args rest) (part v) ⊎ Meets ts absent (leaf rest) (part v)

  inner_there : (r : Range) (v : Value) → IsInner v → IsThere (optional_inner x ts r (part v 0))
  inner_there r v (inl h) = optional_behind r (part v 0) (inl h.0)
  inner_there r v (inr h) = optional_behind r (part v 0) (inr h.0)

  optional_there : (r : Range) (v : Value) → HasAt as_expr v ⊎ IsInner (as_group v) → IsThere (optional_of x ts r v)
  optional_there r (node from to m) (inl h) = map_there m.expr _ h
  optional_there r (node from to m) (inr (inl h)) = absurd h.0
  optional_there r (node from to m) (inr (inr h)) = absurd h.0
  optional_there r (more v vs) (inl h) = absurd h
  optional_there r (more v vs) (inr h) = inner_there r (more v vs) h
  optional_there r absent (inl h) = absurd h
  optional_there r absent (inr h) = inner_there r nil h
  optional_there r nil (inl h) = absurd h
  optional_there r nil (inr h) = inner_there r nil h
  optional_there r (token n) (inl h) = absurd h
  optional_there r (token n) (inr h) = inner_there r nil h

  pub optional_found : (r : Range) (g : Value)
      → Meets ts absent (of as_expr rest) (part g)
      ⊎ Meets ts absent (either_of (of as_args rest) (leaf rest) rest) (part g)
      → IsThere (optional_of x ts r (part g 0))
  optional_found r g (inl h) = optional_there r (part g 0) (inl h.0)
  optional_found r g (inr h) = optional_there r (part g 0) (inr h.0)

  call_there : (r : Range) (g : Value) → Meets ts absent (maybe (of as_arguments rest) (of as_args rest)) (part g)
      → IsThere (typed_call true r g)
  call_there r g h =
      given_there (args_part_at g 0) _
      (map_there (optional arguments_at (group g 0)) _
      (optional_in (λ v. Meets ts absent (of as_arguments rest) (part v)) arguments_at (λ v here. here.0) (part g 0)
      h.0)) (λ type_args. given_there (args_at g 1) _ h.1.0 (λ args. tt))

  typed_inner_there : (r : Range) (v : Value)
      → Meets ts absent (maybe (of as_arguments rest) (of as_args rest)) (part v) ⊎ Meets ts absent (leaf rest) (part v)
      → IsThere (typed_optional_inner x ts r v)
  typed_inner_there r (more (token n) vs) (inl h) = absurd h.0
  typed_inner_there r (more (token n) vs) (inr h) =
      map_there (given (token_of ts (token n)) (property_of x)) _ (property_found x (token_of ts (token n)) h.0)
  typed_inner_there r (more absent vs) (inl h) = call_there r (more absent vs) h
  typed_inner_there r (more absent vs) (inr h) = absurd h.0
  typed_inner_there r (more nil vs) (inl h) = call_there r (more nil vs) h
  typed_inner_there r (more nil vs) (inr h) = absurd h.0
  typed_inner_there r (more (more w ws) vs) (inl h) = call_there r (more (more w ws) vs) h
  typed_inner_there r (more (more w ws) vs) (inr h) = absurd h.0
  typed_inner_there r (more (node from to m) vs) (inl h) = call_there r (more (node from to m) vs) h
  typed_inner_there r (more (node from to m) vs) (inr h) = absurd h.0
  typed_inner_there r absent (inl h) = absurd h.0
  typed_inner_there r absent (inr h) = absurd h.0
  typed_inner_there r nil (inl h) = absurd h.0
  typed_inner_there r nil (inr h) = absurd h.0
  typed_inner_there r (token n) (inl h) = absurd h.0
  typed_inner_there r (token n) (inr h) = absurd h.0
  typed_inner_there r (node from to m) (inl h) = absurd h.0
  typed_inner_there r (node from to m) (inr h) = absurd h.0

  abbrev IsTypedInner : Value → Type 0
  IsTypedInner v =
      Meets ts absent (maybe (of as_arguments rest) (of as_args rest)) (part v) ⊎ Meets ts absent (leaf rest) (part v)

  typed_optional_there : (r : Range) (v : Value) → HasAt as_expr v ⊎ IsTypedInner (as_group v)
      → IsThere (typed_optional_of x ts r v)
  typed_optional_there r (node from to m) (inl h) = map_there m.expr _ h
  typed_optional_there r (node from to m) (inr (inl h)) = absurd h.0
  typed_optional_there r (node from to m) (inr (inr h)) = absurd h.0
  typed_optional_there r (more v vs) (inl h) = absurd h
  typed_optional_there r (more v vs) (inr h) = typed_inner_there r (more v vs) h
  typed_optional_there r absent (inl h) = absurd h
  typed_optional_there r absent (inr h) = typed_inner_there r nil h
  typed_optional_there r nil (inl h) = absurd h
  typed_optional_there r nil (inr h) = typed_inner_there r nil h
  typed_optional_there r (token n) (inl h) = absurd h
  typed_optional_there r (token n) (inr h) = typed_inner_there r nil h

  pub typed_optional_found : (r : Range) (g : Value)
      → Meets ts absent (of as_expr rest) (part g)
      ⊎ Meets ts absent (either_of (maybe (of as_arguments rest) (of as_args rest)) (leaf rest) rest) (part g)
      → IsThere (typed_optional_of x ts r (part g 0))
  typed_optional_found r g (inl h) = typed_optional_there r (part g 0) (inl h.0)
  typed_optional_found r g (inr h) = typed_optional_there r (part g 0) (inr h.0)

  -- behind an operand: an operator with another operand, or `as` or `satisfies`
  asserted_there : (r : Range) (e : Expr) (kind : TokenKind) (v : Value) → IsThere (token_of ts v) ⊎ HasAt as_type v
      → IsThere (asserted_by r e kind v)
  asserted_there r e kind (token n) h = tt
  asserted_there r e kind (node from to m) (inl h) = absurd h
  asserted_there r e kind (node from to m) (inr h) = map_there m.ts_type _ h
  asserted_there r e kind absent (inl h) = absurd h
  asserted_there r e kind absent (inr h) = absurd h
  asserted_there r e kind nil (inl h) = absurd h
  asserted_there r e kind nil (inr h) = absurd h
  asserted_there r e kind (more v vs) (inl h) = absurd h
  asserted_there r e kind (more v vs) (inr h) = absurd h

  abbrev IsAsserted : Value → Type 0
  IsAsserted v = Meets ts absent (leaf rest) (part v) ⊎ Meets ts absent (of as_type rest) (part v)

  no_asserted : {X : Type 0} → IsAsserted nil → X
  no_asserted (inl h) = absurd h.0
  no_asserted (inr h) = absurd h.0

  first_asserted : (v vs : Value) → IsAsserted (more v vs) → IsThere (token_of ts v) ⊎ HasAt as_type v
  first_asserted v vs (inl h) = inl h.0
  first_asserted v vs (inr h) = inr h.0

  before_there : (r : Range) (e : Expr) (g : Value) → IsAsserted g → IsThere (asserted_by r e k.AsWord (part g 0))
  before_there r e g (inl h) = asserted_there r e k.AsWord (part g 0) (inl h.0)
  before_there r e g (inr h) = asserted_there r e k.AsWord (part g 0) (inr h.0)

  -- before an operand: a type or `const`
  pub before_found : (r : Range) (e : Expr) (p : Value)
      → Meets ts absent (leaf rest) (part (group p 0)) ⊎ Meets ts absent (of as_type rest) (part (group p 0))
      → IsThere (asserted_by r e k.AsWord (part (group p 0) 0))
  before_found r e p h = before_there r e (group p 0) h

  turned_there : (r : Range) (e : Expr) (from : ℕ) (g v : Value)
      → (IsThere (token_of ts (part g 0)) × IsAsserted (as_group v))
      ⊎ (IsThere (binary_between ts from (first_of v)) × HasAt as_expr (part g 1) × HasAt as_expr v)
      → IsThere (turned_by ts r e from g v)
  turned_there r e from g (more v vs) (inl h) =
      given_there (kind_at ts g 0) _ (map_there (token_at ts g 0) _ h.0)
      (λ kind. asserted_there r e kind v (first_asserted v vs h.1))
  turned_there r e from g (more v vs) (inr h) = absurd h.2
  turned_there r e from g absent (inl h) = no_asserted h.1
  turned_there r e from g absent (inr h) = absurd h.2
  turned_there r e from g nil (inl h) = no_asserted h.1
  turned_there r e from g nil (inr h) = absurd h.2
  turned_there r e from g (token n) (inl h) = no_asserted h.1
  turned_there r e from g (token n) (inr h) = absurd h.2
  turned_there r e from g (node start to m) (inl h) = no_asserted h.1
  turned_there r e from g (node start to m) (inr h) =
      given_there (binary_between ts from start) _ h.0 (λ op. given_there (expr_at g 1) _ h.1 (λ right. tt))

  pub turned_found : (r : Range) (e : Expr) (b : Value) (g : Value)
      → Meets ts b (leaf (either_of (leaf rest) (of as_type rest) rest)) (part g)
      ⊎ Meets ts b (binary (of as_expr rest)) (part g)
      → IsThere (turned_by ts r e (behind b) g (part g 1))
  turned_found r e b g (inl h) = turned_there r e (behind b) g (part g 1) (inl (h.0, asserted_of h.1.0))
    where
      asserted_of : (Meets ts (part g 0) (leaf rest) (part (as_group (part g 1)))
          ⊎ Meets ts (part g 0) (of as_type rest) (part (as_group (part g 1)))) → IsAsserted (as_group (part g 1))
      asserted_of (inl h) = inl (h.0, tt)
      asserted_of (inr h) = inr (h.0, tt)
  turned_found r e b g (inr h) = turned_there r e (behind b) g (part g 1) (inr (h.0, h.1.0, h.1.0))

  -- ---- statements
  more_returned : (v vs : Value) → HasAt as_expr v ⊎ (vs ≡ nil) → IsThere (returned (more v vs))
  more_returned v nil h = tt
  more_returned v absent (inl h) = map_there (expr_at (more v absent) 0) _ h
  more_returned v absent (inr h) = absurd (let bad : ⊥ = cc in bad)
  more_returned v (more w ws) (inl h) = map_there (expr_at (more v (more w ws)) 0) _ h
  more_returned v (more w ws) (inr h) = absurd (let bad : ⊥ = cc in bad)
  more_returned v (token n) (inl h) = map_there (expr_at (more v (token n)) 0) _ h
  more_returned v (token n) (inr h) = absurd (let bad : ⊥ = cc in bad)
  more_returned v (node from to m) (inl h) = map_there (expr_at (more v (node from to m)) 0) _ h
  more_returned v (node from to m) (inr h) = absurd (let bad : ⊥ = cc in bad)

  alone_is : (v vs : Value) → IsAlone (more v vs) → vs ≡ nil
  alone_is v nil h = refl
  alone_is v absent h = absurd h
  alone_is v (more w ws) h = absurd h
  alone_is v (token n) h = absurd h
  alone_is v (node from to m) h = absurd h

  pub returned_found : (g : Value)
      → Meets ts absent (of as_expr rest) (part g) ⊎ (IsAlone g × Meets ts absent rest (part g)) → IsThere (returned g)
  returned_found (more v vs) (inl h) = more_returned v vs (inl h.0)
  returned_found (more v vs) (inr h) = more_returned v vs (inr (alone_is v vs h.0))
  returned_found absent (inl h) = absurd h.0
  returned_found absent (inr h) = absurd h.0
  returned_found nil (inl h) = absurd h.0
  returned_found nil (inr h) = absurd h.0
  returned_found (token n) (inl h) = absurd h.0
  returned_found (token n) (inr h) = absurd h.0
  returned_found (node from to m) (inl h) = absurd h.0
  returned_found (node from to m) (inr h) = absurd h.0

  -- a pattern with its type
  pub marked_found : (o : Option (Bool → Option TsPart → Range → Pat)) (mark : Bool) (ty : Option TsPart) (r : Range)
      → IsThere o → IsThere (marked_by o mark ty r)
  marked_found (Some pat) mark ty r h = tt
  marked_found None mark ty r h = absurd h

  type_there : (w : Value) → MayMeet (λ v. Meets ts absent (of as_type rest) (part v)) w
      → IsThere (optional type_at (as_group w))
  type_there w h = optional_in (λ v. Meets ts absent (of as_type rest) (part v)) type_at (λ v here. here.0) w h

  annotated_there : (p : Value) → HasAt as_marked (part p 0)
      → MayMeet (λ v. Meets ts absent (of as_type rest) (part v)) (part p 1) → IsThere (annotated_at ts p 0 1)
  annotated_there p pat ty =
      given_there (annotation_at p 1) _ (map_there (optional type_at (group p 1)) _ (type_there (part p 1) ty)) (λ a.
      marked_found (marked_at p 0) false a (annotated_span ts p 0 1) pat)

  caught_there : (w : Value) → MayMeet (λ v. Meets ts absent (of as_marked (maybe (of as_type rest) rest)) (part v)) w
      → IsThere (caught_in ts (as_group w))
  caught_there (more v vs) h = map_there (annotated_at ts (more v vs) 0 1) _ (annotated_there (more v vs) h.0 h.1.0)
  caught_there nil h = tt
  caught_there absent h = absurd h
  caught_there (token n) h = absurd h
  caught_there (node from to m) h = absurd h

  -- a single part that is a block
  abbrev IsFinally : Value → Type 0
  IsFinally v = IsAlone v × Meets ts absent (of as_stmt rest) (part v)

  abbrev IsCatch : Needs → Value → Type 0
  IsCatch first v = Meets ts absent (maybe first (of as_stmt (maybe (of as_stmt rest) rest))) (part v)

  stmt_there : (w : Value) → MayMeet (λ v. Meets ts absent (of as_stmt rest) (part v)) w
      → IsThere (optional stmt_at (as_group w))
  stmt_there w h = optional_in (λ v. Meets ts absent (of as_stmt rest) (part v)) stmt_at (λ v here. here.0) w h

  catch_there : (r : Range) (block : Stmt) (v : Value) → IsCatch (of as_pat rest) v
      → IsThere (given (optional pat_at (group v 0)) (λ param.
      given (stmt_at v 1) (λ handler.
      given (optional stmt_at (group v 2)) (λ finalizer. Some (vStmt.Try block param (Some handler) finalizer r)))))
  catch_there r block v h =
      given_there (optional pat_at (group v 0)) _
      (optional_in (λ v. Meets ts absent (of as_pat rest) (part v)) pat_at (λ v here. here.0) (part v 0) h.0) (λ param.
      given_there (stmt_at v 1) _ h.1.0 (λ handler.
      given_there (optional stmt_at (group v 2)) _ (stmt_there (part v 2) h.1.1.0) (λ finalizer. tt)))

  typed_catch_there : (r : Range) (block : Stmt) (v : Value) → IsCatch (of as_marked (maybe (of as_type rest) rest)) v
      → IsThere (given (caught_in ts (group v 0)) (λ param.
      given (stmt_at v 1) (λ handler.
      given (optional stmt_at (group v 2)) (λ finalizer. Some (vStmt.Try block param (Some handler) finalizer r)))))
  typed_catch_there r block v h =
      given_there (caught_in ts (group v 0)) _ (caught_there (part v 0) h.0) (λ param.
      given_there (stmt_at v 1) _ h.1.0 (λ handler.
      given_there (optional stmt_at (group v 2)) _ (stmt_there (part v 2) h.1.1.0) (λ finalizer. tt)))

  more_handled : (r : Range) (block : Stmt) (v vs : Value)
      → IsCatch (of as_pat rest) (more v vs) ⊎ IsFinally (more v vs) → IsThere (handled r block (more v vs))
  more_handled r block v nil (inl h) = absurd h.1.0
  more_handled r block v nil (inr h) = map_there (stmt_at (more v nil) 0) _ h.1.0
  more_handled r block v absent (inl h) = absurd h.1.0
  more_handled r block v absent (inr h) = absurd h.0
  more_handled r block v (more w ws) (inl h) = catch_there r block (more v (more w ws)) h
  more_handled r block v (more w ws) (inr h) = absurd h.0
  more_handled r block v (token n) (inl h) = absurd h.1.0
  more_handled r block v (token n) (inr h) = absurd h.0
  more_handled r block v (node from to m) (inl h) = absurd h.1.0
  more_handled r block v (node from to m) (inr h) = absurd h.0

  pub handled_found : (r : Range) (block : Stmt) (g : Value) → IsCatch (of as_pat rest) g ⊎ IsFinally g
      → IsThere (handled r block g)
  handled_found r block (more v vs) h = more_handled r block v vs h
  handled_found r block absent (inl h) = absurd h.1.0
  handled_found r block absent (inr h) = absurd h.0
  handled_found r block nil (inl h) = absurd h.1.0
  handled_found r block nil (inr h) = absurd h.0
  handled_found r block (token n) (inl h) = absurd h.1.0
  handled_found r block (token n) (inr h) = absurd h.0
  handled_found r block (node from to m) (inl h) = absurd h.1.0
  handled_found r block (node from to m) (inr h) = absurd h.0

  more_typed_handled : (r : Range) (block : Stmt) (v vs : Value)
      → IsCatch (of as_marked (maybe (of as_type rest) rest)) (more v vs) ⊎ IsFinally (more v vs)
      → IsThere (typed_handled ts r block (more v vs))
  more_typed_handled r block v nil (inl h) = absurd h.1.0
  more_typed_handled r block v nil (inr h) = map_there (stmt_at (more v nil) 0) _ h.1.0
  more_typed_handled r block v absent (inl h) = absurd h.1.0
  more_typed_handled r block v absent (inr h) = absurd h.0
  more_typed_handled r block v (more w ws) (inl h) = typed_catch_there r block (more v (more w ws)) h
  more_typed_handled r block v (more w ws) (inr h) = absurd h.0
  more_typed_handled r block v (token n) (inl h) = absurd h.1.0
  more_typed_handled r block v (token n) (inr h) = absurd h.0
  more_typed_handled r block v (node from to m) (inl h) = absurd h.1.0
  more_typed_handled r block v (node from to m) (inr h) = absurd h.0

  pub typed_handled_found : (r : Range) (block : Stmt) (g : Value)
      → IsCatch (of as_marked (maybe (of as_type rest) rest)) g ⊎ IsFinally g → IsThere (typed_handled ts r block g)
  typed_handled_found r block (more v vs) h = more_typed_handled r block v vs h
  typed_handled_found r block absent (inl h) = absurd h.1.0
  typed_handled_found r block absent (inr h) = absurd h.0
  typed_handled_found r block nil (inl h) = absurd h.1.0
  typed_handled_found r block nil (inr h) = absurd h.0
  typed_handled_found r block (token n) (inl h) = absurd h.1.0
  typed_handled_found r block (token n) (inr h) = absurd h.0
  typed_handled_found r block (node from to m) (inl h) = absurd h.1.0
  typed_handled_found r block (node from to m) (inr h) = absurd h.0

  -- clauses of `switch`
  abbrev IsClause : Value → Type 0
  IsClause v = Meets ts absent (maybe (of as_expr rest) (list (of as_stmt rest) rest)) (part v)

  clause_there : (at : ℕ) (turn : Value) → IsClause turn → IsThere (clause_of ts at turn)
  clause_there at turn h =
      given_there (optional expr_at (group turn 0)) _
      (optional_in (λ v. Meets ts absent (of as_expr rest) (part v)) expr_at (λ v here. here.0) (part turn 0) h.0)
      (λ test.
      given_there (stmts_of (group turn 1)) _
      (turns_in (λ v. Meets ts absent (of as_stmt rest) (part v)) (λ turn. stmt_at turn 0) (λ v here. here.0)
      (part turn 1) h.1.0) (λ cons. tt))

  clauses_there : (at : ℕ) (w : Value) → EachTurn (λ v. IsClause (as_group v)) w → IsThere (clauses ts at w)
  clauses_there at (more turn vs) h =
      given_there (clause_of ts at (as_group turn)) _ (clause_there at (as_group turn) h.0) (λ clause.
      given_there (clauses ts (behind_clause at (as_group turn)) vs) _
      (clauses_there (behind_clause at (as_group turn)) vs h.1) (λ others. tt))
  clauses_there at absent h = tt
  clauses_there at nil h = tt
  clauses_there at (token n) h = tt
  clauses_there at (node from to m) h = tt

  pub clauses_in : (at : ℕ) (w : Value) → EachTurn (λ v. IsClause (as_group v)) w → IsThere (clauses ts at (as_group w))
  clauses_in at w h = grouped (λ v. IsThere (clauses ts at v)) w (clauses_there at w h) tt

  -- items in braces, or none
  none_hollow : (v : Value) → v ≡ nil → IsThere (items_of (as_group v))
  none_hollow v e = let P : Value → Type 0 = λ w. IsThere (items_of (as_group w)) in subst P (sym e) tt

  pub items_found : (g : Value)
      → Meets ts absent (list (of as_item rest) rest) (part g) ⊎ Meets ts absent (hollow rest) (part g)
      → IsThere (items_of (group g 0))
  items_found g (inl h) =
      turns_in (λ v. Meets ts absent (of as_item rest) (part v)) (λ turn. item_at turn 0) (λ v here. here.0) (part g 0)
      h.0
  items_found g (inr h) = none_hollow (part g 0) h.0

  -- ---- classes and types
  heritage_one : (p : Value) (n : ℕ) → HasAt as_reference (part p n) → IsThere (heritage_at ts p n)
  heritage_one p n h = map_there (reference_at p n) _ h

  heritage_there : (p : Value) → Meets ts absent (of as_reference (list (of as_reference rest) rest)) (part p)
      → IsThere (heritage_from ts p 0)
  heritage_there p h =
      given_there (heritage_at ts p 0) _ (heritage_one p 0 h.0) (λ first.
      given_there (turns (λ turn. heritage_at ts turn 0) (group p 1)) _
      (turns_in (λ v. Meets ts absent (of as_reference rest) (part v)) (λ turn. heritage_at ts turn 0)
      (λ v here. heritage_one v 0 here.0) (part p 1) h.1.0) (λ others. tt))

  pub heritage_found : (w : Value)
      → MayMeet (λ v. Meets ts absent (of as_reference (list (of as_reference rest) rest)) (part v)) w
      → IsThere (heritage_in ts (as_group w))
  heritage_found (more v vs) h = map_there (heritage_from ts (more v vs) 0) _ (heritage_there (more v vs) h)
  heritage_found nil h = tt
  heritage_found absent h = absurd h
  heritage_found (token n) h = absurd h
  heritage_found (node from to m) h = absurd h

  -- arguments behind the operand of `extends`
  pub behind_operand : (w : Value)
      → MayMeet (λ v. Meets ts absent (of as_expr (maybe (of as_arguments rest) rest)) (part v)) w
      → IsThere (optional arguments_at (group (as_group w) 1))
  behind_operand (more v vs) h =
      optional_in (λ v. Meets ts absent (of as_arguments rest) (part v)) arguments_at (λ v here. here.0)
      (part (more v vs) 1) h.1.0
  behind_operand nil h = tt
  behind_operand absent h = absurd h
  behind_operand (token n) h = absurd h
  behind_operand (node from to m) h = absurd h

  modifiers_there : (before : Modifiers) (w : Value)
      → EachTurn (λ v. Meets ts absent (leaf rest) (part (as_group v))) w → IsThere (modifiers_in ts before w)
  modifiers_there before (more v vs) h =
      given_there (kind_at ts (as_group v) 0) _ (map_there (token_at ts (as_group v) 0) _ h.0.0)
      (λ kind. modifiers_there (with_modifier kind before) vs h.1)
  modifiers_there before absent h = tt
  modifiers_there before nil h = tt
  modifiers_there before (token n) h = tt
  modifiers_there before (node from to m) h = tt

  pub modifiers_found : (before : Modifiers) (w : Value)
      → EachTurn (λ v. Meets ts absent (leaf rest) (part (as_group v))) w
      → IsThere (modifiers_in ts before (as_group w))
  modifiers_found before w h = grouped (λ v. IsThere (modifiers_in ts before v)) w (modifiers_there before w h) tt

  holds_there : (kind : TokenKind) (w : Value) → EachTurn (λ v. Meets ts absent (leaf rest) (part (as_group v))) w
      → IsThere (holds ts kind w)
  holds_there kind (more v vs) h =
      given_there (kind_at ts (as_group v) 0) _ (map_there (token_at ts (as_group v) 0) _ h.0.0) (λ other.
      given_there (holds ts kind vs) _ (holds_there kind vs h.1) (λ others. tt))
  holds_there kind absent h = tt
  holds_there kind nil h = tt
  holds_there kind (token n) h = tt
  holds_there kind (node from to m) h = tt

  pub holds_found : (kind : TokenKind) (w : Value) → EachTurn (λ v. Meets ts absent (leaf rest) (part (as_group v))) w
      → IsThere (holds ts kind (as_group w))
  holds_found kind w h = grouped (λ v. IsThere (holds ts kind v)) w (holds_there kind w h) tt

  pub type_marked_found : (r : Range) (name : Option Ident) (pat : TsParamPat) (g : Value)
      → Meets ts absent (leaf (maybe (of as_type rest) rest)) (part g) ⊎ Meets ts absent (of as_type rest) (part g)
      → IsThere (type_pats.marked_by r name pat g)
  type_marked_found r name pat (more (token n) vs) (inl h) =
      map_there (optional type_at (group vs 0)) _ (type_there (part vs 0) h.1.0)
  type_marked_found r name pat (more (token n) vs) (inr h) = absurd h.0
  type_marked_found r name pat (more (node from to m) vs) (inl h) = absurd h.0
  type_marked_found r name pat (more (node from to m) vs) (inr h) = map_there m.ts_type _ h.0
  type_marked_found r name pat (more absent vs) (inl h) = absurd h.0
  type_marked_found r name pat (more absent vs) (inr h) = absurd h.0
  type_marked_found r name pat (more nil vs) (inl h) = absurd h.0
  type_marked_found r name pat (more nil vs) (inr h) = absurd h.0
  type_marked_found r name pat (more (more w ws) vs) (inl h) = absurd h.0
  type_marked_found r name pat (more (more w ws) vs) (inr h) = absurd h.0
  type_marked_found r name pat absent (inl h) = absurd h.0
  type_marked_found r name pat absent (inr h) = absurd h.0
  type_marked_found r name pat nil (inl h) = absurd h.0
  type_marked_found r name pat nil (inr h) = absurd h.0
  type_marked_found r name pat (token n) (inl h) = absurd h.0
  type_marked_found r name pat (token n) (inr h) = absurd h.0
  type_marked_found r name pat (node from to m) (inl h) = absurd h.0
  type_marked_found r name pat (node from to m) (inr h) = absurd h.0

  sign_there : (w : Value) → MayMeet (λ v. Meets ts absent (word is_sign_op rest) (part v)) w
      → IsThere (signed_by ts (as_group w))
  sign_there (more v vs) h = listed_there signs (token_at ts (more v vs) 0) h.0
  sign_there nil h = tt
  sign_there absent h = absurd h
  sign_there (token n) h = absurd h
  sign_there (node from to m) h = absurd h

  pub signed_found : (w : Value)
      → MayMeet (λ v. Meets ts absent (maybe (word is_sign_op rest) rest) (part v)) w
      → IsThere (signed_in ts (as_group w))
  signed_found (more v vs) h = sign_there v h.0
  signed_found nil h = tt
  signed_found absent h = absurd h
  signed_found (token n) h = absurd h
  signed_found (node from to m) h = absurd h

  indexes_there : (start at : ℕ) (ty : TsType) (w : Value)
      → EachTurn (λ v. Meets ts absent (maybe (of as_type rest) rest) (part (as_group v))) w
      → IsThere (indexes ts start at ty w)
  indexes_there start at ty (more v vs) h =
      given_there (optional type_at (group (as_group v) 0)) _ (type_there (part (as_group v) 0) h.0.0) (λ index.
      indexes_there start (bracket_end at (group (as_group v) 0))
      (indexed ts start (bracket_end at (group (as_group v) 0)) ty index) vs h.1)
  indexes_there start at ty absent h = tt
  indexes_there start at ty nil h = tt
  indexes_there start at ty (token n) h = tt
  indexes_there start at ty (node from to m) h = tt

  pub indexes_in : (start at : ℕ) (ty : TsType) (w : Value)
      → EachTurn (λ v. Meets ts absent (maybe (of as_type rest) rest) (part (as_group v))) w
      → IsThere (indexes ts start at ty (as_group w))
  indexes_in start at ty w h =
      grouped (λ v. IsThere (indexes ts start at ty v)) w (indexes_there start at ty w h) tt

  -- keys in brackets
  abbrev IsInnerKey : Value → Type 0
  IsInnerKey v =
      Meets ts absent (word is_numeral rest) (part v) ⊎ Meets ts absent (of as_entity rest) (part v)

  inner_key_there : (r : Range) (v : Value) → IsInnerKey v → IsThere (inner_key x ts r v)
  inner_key_there r (more (token n) vs) (inl h) = computed_found x r (token_of ts (token n)) h.0
  inner_key_there r (more (token n) vs) (inr h) = absurd h.0
  inner_key_there r (more (node from to m) vs) (inl h) = absurd h.0
  inner_key_there r (more (node from to m) vs) (inr h) = map_there m.entity _ h.0
  inner_key_there r (more absent vs) (inl h) = absurd h.0
  inner_key_there r (more absent vs) (inr h) = absurd h.0
  inner_key_there r (more nil vs) (inl h) = absurd h.0
  inner_key_there r (more nil vs) (inr h) = absurd h.0
  inner_key_there r (more (more w ws) vs) (inl h) = absurd h.0
  inner_key_there r (more (more w ws) vs) (inr h) = absurd h.0
  inner_key_there r absent (inl h) = absurd h.0
  inner_key_there r absent (inr h) = absurd h.0
  inner_key_there r nil (inl h) = absurd h.0
  inner_key_there r nil (inr h) = absurd h.0
  inner_key_there r (token n) (inl h) = absurd h.0
  inner_key_there r (token n) (inr h) = absurd h.0
  inner_key_there r (node from to m) (inl h) = absurd h.0
  inner_key_there r (node from to m) (inr h) = absurd h.0

  no_inner_key : {X : Type 0} → IsInnerKey nil → X
  no_inner_key (inl h) = absurd h.0
  no_inner_key (inr h) = absurd h.0

  pub bracket_found : (r : Range) (g : Value)
      → Meets ts absent (leaf rest) (part g)
      ⊎ Meets ts absent (either_of (word is_numeral rest) (of as_entity rest) rest) (part g)
      → IsThere (bracket_key x ts r g)
  bracket_found r (more (token n) vs) (inl h) = map_there (str_at x ts (more (token n) vs) 0) _
      (map_there (token_at ts (more (token n) vs) 0) _ h.0)
  bracket_found r (more (token n) vs) (inr h) = no_inner_key h.0
  bracket_found r (more (node from to m) vs) (inl h) = absurd h.0
  bracket_found r (more (node from to m) vs) (inr h) = no_inner_key h.0
  bracket_found r (more absent vs) (inl h) = absurd h.0
  bracket_found r (more absent vs) (inr h) = no_inner_key h.0
  bracket_found r (more nil vs) (inl h) = absurd h.0
  bracket_found r (more nil vs) (inr h) = no_inner_key h.0
  bracket_found r (more (more w ws) vs) (inl h) = absurd h.0
  bracket_found r (more (more w ws) vs) (inr h) = inner_key_there r (more w ws) h.0
  bracket_found r absent (inl h) = absurd h.0
  bracket_found r absent (inr h) = no_inner_key h.0
  bracket_found r nil (inl h) = absurd h.0
  bracket_found r nil (inr h) = no_inner_key h.0
  bracket_found r (token n) (inl h) = absurd h.0
  bracket_found r (token n) (inr h) = no_inner_key h.0
  bracket_found r (node from to m) (inl h) = absurd h.0
  bracket_found r (node from to m) (inr h) = no_inner_key h.0
