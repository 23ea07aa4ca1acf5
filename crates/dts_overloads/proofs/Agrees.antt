-- What is met in a tree is what its typed value tells, in each role that it has.
use Rattle.std.specs.Prelude.{ℕ, zero, suc, Bool, true, false, ◌&&◌, List, [], ◌∷◌, Option, Some, option_map, IfSome}
use Rattle.std.proofs.Common.{◌≡◌, refl, ap, ◌∙◌}
use Rattle.base.specs.declared.range.Range.{Range}
use Rattle.es_ast.specs.declared.ts.ts.TsPart.{TsPart}
use Rattle.es_ast.specs.declared.leaf.VarDeclKind.{VarDeclKind}
use Rattle.es_ast.specs.declared.ast.Decl.{Decl}
use Rattle.es_ast.specs.declared.ast.Expr.{Expr}
use Rattle.es_ast.specs.declared.ast.Pat.{Pat}
use Rattle.es_ast.specs.declared.ast.VarDeclarator.{VarDeclarator}
use Rattle.es_lowering.specs.Value.{Value, Typed, Signature, given, part, as_group, typed, optional, turns}
use Rattle.es_lowering.specs.Value as v
use Rattle.es_lowering.specs.Expressions.{Post}
use Rattle.dts_overloads.specs.Among.{none, ◌∪◌, all_of, Among, if_some, of_program, of_class_member, of_decl, of_expr, of_module_item, of_object_pat_prop, of_param, of_pat, of_prop, of_stmt, of_stmts, of_var_declarator}
use Rattle.dts_overloads.specs.declared.shapes.Shape.{Shape}
use Rattle.dts_overloads.specs.declared.shapes.Shape.TheVariants as sh
use Rattle.dts_overloads.specs.Plan.{inner}
use Rattle.dts_overloads.specs.Met.{Told, both, Met, absent, nil, more, token, node, nothing, one, loose, rows, each, into, after_part, met}
use Rattle.dts_overloads.proofs.Seen.{Sees, both_none, none_both, moved, mapped, more_told}

-- ---- in the roles of a node
abbrev pub variables_among : VarDeclKind × List VarDeclarator → Among
variables_among v = all_of of_var_declarator v.1

abbrev pub head_among : Option VarDeclKind × Pat → Among
head_among head = of_pat head.1

abbrev pub key_among : Bool × Expr → Among
key_among key = of_expr key.1

abbrev pub params_among : Signature → Among
params_among signature = all_of of_param signature.1

-- what a further part of a chain adds to the ranges of what stands before it
pub record AddsAfter (told : Told) (post : Post) : Type 0 where
  pub among : Among
  pub is : told ≡ Some among
  pub all : (start : ℕ) (e : Expr)
      → of_expr (post start e) ≡ of_expr e ∪ among

pub record SeesPost (part : Option Post) (told : Told) : Type 0 where
  pub sees : IfSome part (λ post. AddsAfter told post)

pub record Said (m : Typed) (told : Told) : Type 0 where
  pub expr : Sees of_expr m.expr told
  pub pat : Sees of_pat m.pat told
  pub stmt : Sees of_stmt m.stmt told
  pub decl : Sees of_decl m.decl told
  pub item : Sees of_module_item m.item told
  pub program : Sees of_program m.program told
  pub block : Sees of_stmts m.block told
  pub variables : Sees variables_among m.variables told
  pub declarator : Sees of_var_declarator m.declarator told
  pub head : Sees head_among m.head told
  pub param : Sees of_param m.param told
  pub params : Sees (all_of of_param) m.params told
  pub pat_prop : Sees of_object_pat_prop m.pat_prop told
  pub prop : Sees of_prop m.prop told
  pub member : Sees of_class_member m.member told
  pub key : Sees key_among m.key told
  pub post : SeesPost m.post told
  pub args : Sees (all_of of_expr) m.args told
  pub marked : (mark : Bool) (ty : Option TsPart) (r : Range)
      → Sees (λ (pat : Bool → Option TsPart → Range → Pat). of_pat (pat mark ty r)) m.marked told
  pub signature : Sees params_among m.signature told
  pub declarable : (declare : Bool) (r : Range)
      → Sees (λ (decl : Bool → Range → Decl). of_decl (decl declare r)) m.declarable told

-- ---- a value, and what is met in it
abbrev pub Agree : Value → Met → Type 0
Agree v.absent absent = Unit {0}
Agree v.nil nil = Unit {0}
Agree (v.more a xs) (more b bs) = Agree a b × Agree xs bs
Agree (v.token n) token = Unit {0}
Agree (v.node from to m) (node told) = Said m told
Agree _ _ = ⊥

-- the first part, and those after it
abbrev pub first : Met → Met
first (more v vs) = v
first _ = absent

abbrev pub rest : Met → Met
rest (more v vs) = vs
rest _ = nil

-- a part, counted from 0
abbrev pub nth : Met → ℕ → Met
nth q zero = first q
nth q (suc n) = nth (rest q) n

pub parts : (p : Value) (q : Met) → Agree p q → (n : ℕ) → Agree (part p n) (nth q n)
parts (v.more a xs) (more b bs) s zero = s.0
parts (v.more a xs) (more b bs) s (suc n) = parts xs bs s.1 n
parts v.absent absent s zero = tt
parts v.absent absent s (suc n) = parts v.nil nil tt n
parts v.nil nil s zero = tt
parts v.nil nil s (suc n) = parts v.nil nil tt n
parts (v.token k) token s zero = tt
parts (v.token k) token s (suc n) = parts v.nil nil tt n
parts (v.node from to m) (node told) s zero = tt
parts (v.node from to m) (node told) s (suc n) = parts v.nil nil tt n
parts _ _ s n = absurd s

-- the same of the parts of a group
pub parts_in : (p : Value) (q : Met) → Agree p q → (n : ℕ) → Agree (part (as_group p) n) (nth q n)
parts_in (v.more a xs) (more b bs) s n = parts (v.more a xs) (more b bs) s n
parts_in v.absent absent s zero = tt
parts_in v.absent absent s (suc n) = parts v.nil nil tt n
parts_in v.nil nil s zero = tt
parts_in v.nil nil s (suc n) = parts v.nil nil tt n
parts_in (v.token k) token s zero = tt
parts_in (v.token k) token s (suc n) = parts v.nil nil tt n
parts_in (v.node from to m) (node told) s zero = tt
parts_in (v.node from to m) (node told) s (suc n) = parts v.nil nil tt n
parts_in _ _ s n = absurd s

-- ---- ways
pub met_nothing : (q : Met) → met q nothing ≡ Some none
met_nothing (more v vs) =
    ap (λ (z : Told). both z (met vs nothing)) (met_nothing v) ∙ none_both (met vs nothing) ∙ met_nothing vs
met_nothing absent = refl
met_nothing nil = refl
met_nothing token = refl
met_nothing (node told) = refl

pub met_done : (q : Met) → met q (rows []) ≡ Some none
met_done (more v vs) =
    ap (λ (z : Told). both z (met vs nothing)) (met_nothing v) ∙ none_both (met vs nothing) ∙ met_nothing vs
met_done absent = refl
met_done nil = refl
met_done token = refl
met_done (node told) = refl

pub met_row : (q : Met) (shape : Shape) (shapes : List Shape)
    → met q (rows (shape ∷ shapes))
    ≡ both (met (first q) (into shape (first q))) (met (rest q) (after_part shape shapes (first q)))
met_row (more v vs) shape shapes = refl
met_row absent shape shapes = refl
met_row nil shape shapes = refl
met_row token shape shapes = refl
met_row (node told) shape shapes = refl

-- a part that doesn't tell how those after it are met
abbrev pub is_plain : Shape → Bool
is_plain (sh.Or group) = false
is_plain (sh.Rest group) = false
is_plain sh.Word = false
is_plain _ = true

abbrev pub are_plain : List Shape → Bool
are_plain [] = true
are_plain (shape ∷ shapes) = is_plain shape && are_plain shapes

-- what is met in parts of these shapes
abbrev pub read : Met → List Shape → Told
read q [] = Some none
read q (sh.Skip ∷ shapes) = read (rest q) shapes
read q (shape ∷ shapes) = both (met (first q) (into shape (first q))) (read (rest q) shapes)

pub rows_are : (shapes : List Shape) → are_plain shapes ≡ true → (q : Met) → met q (rows shapes) ≡ read q shapes
rows_are [] e q = met_done q
rows_are (sh.Skip ∷ shapes) e q =
    met_row q sh.Skip shapes ∙ ap (λ (z : Told). both z (met (rest q) (rows shapes))) (met_nothing (first q))
    ∙ none_both (met (rest q) (rows shapes)) ∙ rows_are shapes e (rest q)
rows_are (sh.Node ∷ shapes) e q =
    met_row q sh.Node shapes ∙ ap (both (met (first q) one)) (rows_are shapes e (rest q))
rows_are (sh.In group ∷ shapes) e q =
    met_row q (sh.In group) shapes ∙ ap (both (met (first q) (rows (inner group)))) (rows_are shapes e (rest q))
rows_are (sh.Each group ∷ shapes) e q =
    met_row q (sh.Each group) shapes ∙ ap (both (met (first q) (each (inner group)))) (rows_are shapes e (rest q))
rows_are (sh.Ended last others ∷ shapes) e q =
    met_row q (sh.Ended last others) shapes
    ∙ ap (both (met (first q) (into (sh.Ended last others) (first q)))) (rows_are shapes e (rest q))
rows_are (sh.Loose group ∷ shapes) e q =
    met_row q (sh.Loose group) shapes
    ∙ ap (both (met (first q) (loose (inner group)))) (rows_are shapes e (rest q))
rows_are (sh.Or group ∷ shapes) e q = let bad : ⊥ = cc in absurd bad
rows_are (sh.Rest group ∷ shapes) e q = let bad : ⊥ = cc in absurd bad
rows_are (sh.Word ∷ shapes) e q = let bad : ⊥ = cc in absurd bad

-- ---- in each role
module _ {A : Type 0} (f : A → Among) (role : Typed → Option A)
    (said : (m : Typed) (told : Told) → Said m told → Sees f (role m) told) where
  pub in_role : (p : Value) (q : Met) → Agree p q → Sees f (given (typed p) role) (met q one)
  in_role (v.node from to m) (node told) s = said m told s
  in_role v.absent q s = record { sees = tt }
  in_role v.nil q s = record { sees = tt }
  in_role (v.more a xs) q s = record { sees = tt }
  in_role (v.token n) q s = record { sees = tt }
  in_role (v.node from to m) absent s = absurd s
  in_role (v.node from to m) nil s = absurd s
  in_role (v.node from to m) (more b bs) s = absurd s
  in_role (v.node from to m) token s = absurd s

  -- a group of one part, or of none
  pub in_group : (p : Value) (q : Met) → Agree p q
      → Sees (if_some f) (optional (λ p n. given (typed (part p n)) role) (as_group p)) (met q (rows (sh.Node ∷ [])))
  in_group (v.more a xs) (more b bs) s =
      moved (if_some f) (option_map Some (given (typed a) role)) (met (more b bs) (rows (sh.Node ∷ []))) (met b one)
      (ap (both (met b one)) (met_done bs) ∙ both_none (met b one))
      (mapped Some (λ a. refl) (given (typed a) role) (in_role a b s.0))
  in_group v.absent absent s = record { sees = refl }
  in_group v.nil nil s = record { sees = refl }
  in_group (v.token n) token s = record { sees = refl }
  in_group (v.node from to m) (node told) s = record { sees = refl }
  in_group _ _ s = absurd s

-- ---- in lists
module _ {A : Type 0} (f : A → Among) (one_of : Value → Option A) (shapes : List Shape)
    (said : (p : Value) (q : Met) → Agree p q → Sees f (one_of (as_group p)) (met q (rows shapes))) where
  in_turns : (p : Value) (q : Met) → Agree p q → Sees (all_of f) (turns one_of p) (met q (each shapes))
  in_turns (v.more a xs) (more b bs) s =
      more_told f (one_of (as_group a)) (turns one_of xs) (met b (rows shapes)) (met bs (each shapes)) (said a b s.0)
      (in_turns xs bs s.1)
  in_turns v.absent absent s = record { sees = refl }
  in_turns v.nil nil s = record { sees = refl }
  in_turns (v.token n) token s = record { sees = refl }
  in_turns (v.node from to m) (node told) s = record { sees = refl }
  in_turns _ _ s = absurd s

  pub in_list : (p : Value) (q : Met) → Agree p q → Sees (all_of f) (turns one_of (as_group p)) (met q (each shapes))
  in_list (v.more a xs) (more b bs) s = in_turns (v.more a xs) (more b bs) s
  in_list v.absent absent s = record { sees = refl }
  in_list v.nil nil s = record { sees = refl }
  in_list (v.token n) token s = record { sees = refl }
  in_list (v.node from to m) (node told) s = record { sees = refl }
  in_list _ _ s = absurd s

-- a list whose turns have a node first
module _ {A : Type 0} (f : A → Among) (role : Typed → Option A)
    (said : (m : Typed) (told : Told) → Said m told → Sees f (role m) told) where
  pub in_first : (p : Value) (q : Met) → Agree p q
      → Sees f (given (typed (part (as_group p) 0)) role) (met q (rows (sh.Node ∷ [])))
  in_first p q s =
      moved f (given (typed (part (as_group p) 0)) role) (met q (rows (sh.Node ∷ []))) (met (first q) one)
      (rows_are (sh.Node ∷ []) refl q ∙ both_none (met (first q) one))
      (in_role f role said (part (as_group p) 0) (first q) (parts_in p q s 0))

  pub in_nodes : (p : Value) (q : Met) → Agree p q
      → Sees (all_of f) (turns (λ turn. given (typed (part turn 0)) role) (as_group p)) (met q (each (sh.Node ∷ [])))
  in_nodes p q s = in_list f (λ turn. given (typed (part turn 0)) role) (sh.Node ∷ []) in_first p q s

-- no node
pub met_group : (v w : Met) → met (more v w) one ≡ Some none
met_group v w =
    ap (λ (z : Told). both z (met w nothing)) (met_nothing v) ∙ none_both (met w nothing) ∙ met_nothing w
