-- The plan of a node says what its definition does.
use Rattle.std.specs.Prelude.{ℕ, zero, suc, Bool, true, false, List, [], ◌∷◌, ◌++◌}
use Rattle.std.proofs.Common.{◌≡◌, refl, sym, ap, ◌∙◌}
use Rattle.std.proofs.lemmas.List.{append-nil, append_assoc}
use Rattle.es_token.specs.declared.token.Token.{Token}
use Rattle.es_grammar.specs.declared.rows.NodeKind.{NodeKind}
use Rattle.es_grammar.specs.declared.rows.NodeKind.TheVariants as l
use Rattle.es_site.specs.declared.site.DependencyKind.{DependencyKind}
use Rattle.es_site.specs.declared.site.DependencyKind.TheVariants as kind
use Rattle.es_site.specs.Sites.{Found}
use Rattle.es_law_sites.specs.plain.Part.{Part, absent, nil, more, token, node, part, as_group, group, is_there, found, at, inside, may, each, turns}
use Rattle.es_law_sites.specs.plain.Own.{own, called, declared, optional_inner, typed_inner, typed_args, operand, first_of, returned, handled}
use Rattle.es_tree_sites.specs.declared.plan.Way.{Way}
use Rattle.es_tree_sites.specs.declared.plan.Way.TheVariants.{Skip, Tree, In, Either}
use Rattle.es_tree_sites.specs.declared.plan.Group.{Group}
use Rattle.es_tree_sites.specs.declared.plan.Group.TheVariants.{Trees, First, Second, Both, Ends, Firsts, Seconds, Holes, Hole, Cases, Case, Members, Member, Body, Optional, TypedOptional, Arguments, Returned, Handlers, Operands, Operand}
use Rattle.es_tree_sites.specs.Plan.{is_single, is_token, ways, rest, plan, taken, on, names, declares, calls, for_ways}

-- ---- one after the other
right2 : (a b : Found) → a ++ (b ++ []) ≡ a ++ b
right2 a b = ap (λ k. a ++ k) (append-nil b)

right3 : (a b c : Found) → a ++ (b ++ (c ++ [])) ≡ a ++ (b ++ c)
right3 a b c = ap (λ k. a ++ k) (right2 b c)

left3 : (a b c : Found) → a ++ (b ++ (c ++ [])) ≡ a ++ b ++ c
left3 a b c = right3 a b c ∙ sym (append_assoc a b c)

left4 : (a b c d : Found) → a ++ (b ++ (c ++ (d ++ []))) ≡ a ++ b ++ c ++ d
left4 a b c d = ap (λ k. a ++ k) (right3 b c d) ∙ sym (append_assoc a b (c ++ d)) ∙ sym (append_assoc (a ++ b) c d)

inner3 : (a b c : Found) → (a ++ b) ++ (c ++ []) ≡ a ++ (b ++ c)
inner3 a b c = append_assoc a b (c ++ []) ∙ right3 a b c

-- ---- parts by their places
-- none is taken
skip_none : (v : Part) → taken [] Skip v ≡ []
unfolding taken
skip_none absent = refl
skip_none nil = refl
skip_none (more v vs) = ap (λ s. s ++ taken [] Skip vs) (skip_none v) ∙ skip_none vs
skip_none (token n) = refl
skip_none (node label p s) = refl

pub skipped_none : (v : Part) → taken [] Skip v ≡ []
skipped_none v = skip_none v

abbrev pub inner : Group → Part → Found
inner g p = taken (ways g p) (rest g) p

one : Way → Part → Found
one Skip v = []
one Tree v = found v
one (In g) v = inner g v
one (Either g) v = found v ++ inner g v

one_is : (w : Way) (v : Part) → on w v ≡ one w v
unfolding one
one_is Skip v = skip_none v
one_is Tree v = ap (λ s. found v ++ s) (skip_none v) ∙ append-nil (found v)
one_is (In g) v = refl
one_is (Either g) v = refl

pub on_skip : (v : Part) → on Skip v ≡ []
on_skip v = skip_none v

pub on_tree : (v : Part) → on Tree v ≡ found v
on_tree v = ap (λ s. found v ++ s) (skip_none v) ∙ append-nil (found v)

placed : (Way → Part → Found) → List Way → ℕ → Part → Found
placed f [] n p = []
placed f (w ∷ ws) n p = f w (part p n) ++ placed f ws (suc n) p

one_absent : (w : Way) → one w absent ≡ []
unfolding one taken
one_absent Skip = refl
one_absent Tree = refl
one_absent (In g) = refl
one_absent (Either g) = refl

placed_none : (p : Part) → ((n : ℕ) → part p n ≡ absent) → (ws : List Way) (n : ℕ) → placed one ws n p ≡ []
unfolding placed
placed_none p none [] n = refl
placed_none p none (w ∷ ws) n =
    ap (λ v. one w v ++ placed one ws (suc n) p) (none n)
    ∙ ap (λ s. s ++ placed one ws (suc n) p) (one_absent w)
    ∙ placed_none p none ws (suc n)

placed_next : (v vs : Part) (ws : List Way) (n : ℕ) → placed one ws (suc n) (more v vs) ≡ placed one ws n vs
unfolding placed
placed_next v vs [] n = refl
placed_next v vs (w ∷ ws) n = ap (λ s. one w (part vs n) ++ s) (placed_next v vs ws (suc n))

in_order : (ws : List Way) (p : Part) → taken ws Skip p ≡ placed one ws 0 p
unfolding placed taken
in_order [] p = skip_none p
in_order (w ∷ ws) absent = sym (placed_none absent (λ n. refl) (w ∷ ws) 0)
in_order (w ∷ ws) nil = sym (placed_none nil (λ n. refl) (w ∷ ws) 0)
in_order (w ∷ ws) (more v vs) =
    ap (λ s. s ++ taken ws Skip vs) (one_is w v)
    ∙ ap (λ s. one w v ++ s) (in_order ws vs ∙ sym (placed_next v vs ws 0))
in_order (w ∷ ws) (token m) = sym (placed_none (token m) (λ n. refl) (w ∷ ws) 0)
in_order (w ∷ ws) (node label q s) = sym (placed_none (node label q s) (λ n. refl) (w ∷ ws) 0)

-- ---- groups and lists
grouped : (g : Group) (f : Part → Found) → ((p : Part) → inner g p ≡ f p) → (v : Part) → inner g v ≡ f (as_group v)
unfolding taken
grouped g f is absent = is nil
grouped g f is nil = is nil
grouped g f is (more v vs) = is (more v vs)
grouped g f is (token n) = is nil
grouped g f is (node label p s) = is nil

each_is : (g : Group) (f : Part → Found) → ((p : Part) → inner g p ≡ f p) → (p : Part) → taken [] (In g) p ≡ each f p
unfolding taken
each_is g f is absent = refl
each_is g f is nil = refl
each_is g f is (more v vs) =
    ap (λ s. s ++ taken [] (In g) vs) (grouped g f is v) ∙ ap (λ s. f (as_group v) ++ s) (each_is g f is vs)
each_is g f is (token n) = refl
each_is g f is (node label p s) = refl

in_at : (g : Part) (n : ℕ) → at (as_group g) n ≡ inside (λ q. at q n) (as_group g)
in_at absent n = refl
in_at nil n = refl
in_at (more v vs) n = refl
in_at (token m) n = refl
in_at (node label p s) n = refl

may_is : (p : Part) (n : ℕ) → at (group p n) 0 ≡ may p n
may_is p n = in_at (part p n) 0

pub first_is : (p : Part) → inner First p ≡ at p 0
unfolding ways placed one
first_is p = in_order (Tree ∷ []) p ∙ append-nil (at p 0)

pub second_is : (p : Part) → inner Second p ≡ at p 1
unfolding ways placed one
second_is p = in_order (Skip ∷ Tree ∷ []) p ∙ append-nil (at p 1)

both_is : (p : Part) → inner Both p ≡ at p 0 ++ at p 1
unfolding ways placed one
both_is p = in_order (Tree ∷ Tree ∷ []) p ∙ right2 (at p 0) (at p 1)

ends_is : (p : Part) → inner Ends p ≡ at p 0 ++ at p 2
unfolding ways placed one
ends_is p = in_order (Tree ∷ Skip ∷ Tree ∷ []) p ∙ right2 (at p 0) (at p 2)

firsts_is : (p : Part) → inner Firsts p ≡ each (λ turn. at turn 0) p
unfolding ways
firsts_is p = each_is First (λ turn. at turn 0) first_is p

seconds_is : (p : Part) → inner Seconds p ≡ each (λ turn. at turn 1) p
unfolding ways
seconds_is p = each_is Second (λ turn. at turn 1) second_is p

-- what may stand in a group, and a list in one
may_in : (v : Part) → inner First v ≡ inside (λ q. at q 0) (as_group v)
may_in v = grouped First (λ q. at q 0) first_is v ∙ in_at v 0

list_in : (v : Part) → inner Firsts v ≡ each (λ turn. at turn 0) (as_group v)
list_in v = grouped Firsts (λ q. each (λ turn. at turn 0) q) firsts_is v

hole_is : (p : Part) → inner Hole p ≡ may p 0
unfolding ways placed one
hole_is p = in_order (In First ∷ []) p ∙ append-nil (inner First (part p 0)) ∙ may_in (part p 0)

holes_is : (p : Part) → inner Holes p ≡ each (λ turn. may turn 0) p
unfolding ways
holes_is p = each_is Hole (λ turn. may turn 0) hole_is p

case_is : (p : Part) → inner Case p ≡ may p 0 ++ turns p 1 0
unfolding ways placed one
case_is p =
    in_order (In First ∷ In Firsts ∷ []) p ∙ right2 (inner First (part p 0)) (inner Firsts (part p 1))
    ∙ ap (λ s. s ++ inner Firsts (part p 1)) (may_in (part p 0)) ∙ ap (λ s. may p 0 ++ s) (list_in (part p 1))

cases_is : (p : Part) → inner Cases p ≡ each (λ turn. may turn 0 ++ turns turn 1 0) p
unfolding ways
cases_is p = each_is Case (λ turn. may turn 0 ++ turns turn 1 0) case_is p

member_is : (p : Part) → inner Member p ≡ at p 0 ++ may p 1
unfolding ways placed one
member_is p =
    in_order (Tree ∷ In First ∷ []) p ∙ right2 (at p 0) (inner First (part p 1))
    ∙ ap (λ s. at p 0 ++ s) (may_in (part p 1))

members_is : (p : Part) → inner Members p ≡ each (λ turn. at turn 0 ++ may turn 1) p
unfolding ways
members_is p = each_is Member (λ turn. at turn 0 ++ may turn 1) member_is p

body_is : (p : Part) → inner Body p ≡ turns p 0 0
unfolding ways placed one
body_is p = in_order (In Firsts ∷ []) p ∙ append-nil (inner Firsts (part p 0)) ∙ list_in (part p 0)

pub operand_in : (p : Part) → inner Operand p ≡ at (group p 0) 1
unfolding ways placed one
operand_in p =
    in_order (In Second ∷ []) p ∙ append-nil (inner Second (part p 0))
    ∙ grouped Second (λ q. at q 1) second_is (part p 0)

module _ (x : List ℕ) (ts : List Token) where
  -- ---- forms of their own
  arguments_is : (p : Part) → inner Arguments p ≡ typed_args x ts p
  unfolding ways placed one taken is_token
  arguments_is absent = refl
  arguments_is nil = refl
  arguments_is (more absent vs) = in_order (Skip ∷ Tree ∷ []) (more absent vs) ∙ append-nil (at vs 0)
  arguments_is (more nil vs) = in_order (Skip ∷ Tree ∷ []) (more nil vs) ∙ append-nil (at vs 0)
  arguments_is (more (more v ws) vs) = in_order (Skip ∷ Tree ∷ []) (more (more v ws) vs) ∙ append-nil (at vs 0)
  arguments_is (more (token n) vs) = skip_none vs
  arguments_is (more (node label p s) vs) =
      in_order (Skip ∷ Tree ∷ []) (more (node label p s) vs) ∙ append-nil (at vs 0)
  arguments_is (token n) = refl
  arguments_is (node label p s) = refl

  optional_go : (v : Part) → (found v ++ inner First v) ++ [] ≡ optional_inner x ts v
  unfolding taken
  optional_go absent = refl
  optional_go nil = refl
  optional_go (more v vs) = append-nil (inner First (more v vs)) ∙ first_is (more v vs)
  optional_go (token n) = refl
  optional_go (node label p s) = append-nil (s ++ []) ∙ append-nil s

  optional_is : (p : Part) → inner Optional p ≡ optional_inner x ts (part p 0)
  unfolding ways placed one
  optional_is p = in_order (Either First ∷ []) p ∙ optional_go (part p 0)

  typed_go : (v : Part) → (found v ++ inner Arguments v) ++ [] ≡ typed_inner x ts v
  unfolding taken
  typed_go absent = refl
  typed_go nil = refl
  typed_go (more v vs) = append-nil (inner Arguments (more v vs)) ∙ arguments_is (more v vs)
  typed_go (token n) = refl
  typed_go (node label p s) = append-nil (s ++ []) ∙ append-nil s

  typed_is : (p : Part) → inner TypedOptional p ≡ typed_inner x ts (part p 0)
  unfolding ways placed one
  typed_is p = in_order (Either Arguments ∷ []) p ∙ typed_go (part p 0)

  returned_go : (p : Part) → taken (Tree ∷ []) Skip p ≡ at p 0
  unfolding placed one
  returned_go p = in_order (Tree ∷ []) p ∙ append-nil (at p 0)

  returned_is : (p : Part) → inner Returned p ≡ returned x ts p
  unfolding ways taken is_single
  returned_is absent = refl
  returned_is nil = refl
  returned_is (more v absent) = returned_go (more v absent)
  returned_is (more v nil) = skip_none (more v nil)
  returned_is (more v (more w vs)) = returned_go (more v (more w vs))
  returned_is (more v (token n)) = returned_go (more v (token n))
  returned_is (more v (node label p s)) = returned_go (more v (node label p s))
  returned_is (token n) = refl
  returned_is (node label p s) = refl

  handlers_go : (p : Part)
      → taken (In First ∷ Tree ∷ In First ∷ []) Skip p ≡ inside (λ q. at q 0) (group p 0) ++ at p 1 ++ may p 2
  unfolding placed one
  handlers_go p =
      in_order (In First ∷ Tree ∷ In First ∷ []) p
      ∙ left3 (inner First (part p 0)) (at p 1) (inner First (part p 2))
      ∙ ap (λ s. s ++ at p 1 ++ inner First (part p 2)) (may_in (part p 0))
      ∙ ap (λ s. inside (λ q. at q 0) (group p 0) ++ at p 1 ++ s) (may_in (part p 2))

  handlers_is : (p : Part) → inner Handlers p ≡ handled x ts (inside (λ q. at q 0)) p
  unfolding ways taken is_single
  handlers_is absent = refl
  handlers_is nil = refl
  handlers_is (more v absent) = handlers_go (more v absent)
  handlers_is (more v nil) = returned_go (more v nil)
  handlers_is (more v (more w vs)) = handlers_go (more v (more w vs))
  handlers_is (more v (token n)) = handlers_go (more v (token n))
  handlers_is (more v (node label p s)) = handlers_go (more v (node label p s))
  handlers_is (token n) = refl
  handlers_is (node label p s) = refl

  -- ---- in the words of the definition
  says : Group → Part → Found
  says First p = at p 0
  says Second p = at p 1
  says Both p = at p 0 ++ at p 1
  says Ends p = at p 0 ++ at p 2
  says Firsts p = each (λ turn. at turn 0) p
  says Seconds p = each (λ turn. at turn 1) p
  says Holes p = each (λ turn. may turn 0) p
  says Hole p = may p 0
  says Cases p = each (λ turn. may turn 0 ++ turns turn 1 0) p
  says Case p = may p 0 ++ turns p 1 0
  says Members p = each (λ turn. at turn 0 ++ may turn 1) p
  says Member p = at p 0 ++ may p 1
  says Body p = turns p 0 0
  says Optional p = optional_inner x ts (part p 0)
  says TypedOptional p = typed_inner x ts (part p 0)
  says Arguments p = typed_args x ts p
  says Returned p = returned x ts p
  says Handlers p = handled x ts (inside (λ q. at q 0)) p
  says Operand p = at (group p 0) 1
  says g p = inner g p

  says_is : (g : Group) (p : Part) → inner g p ≡ says g p
  unfolding says
  says_is First p = first_is p
  says_is Second p = second_is p
  says_is Both p = both_is p
  says_is Ends p = ends_is p
  says_is Firsts p = firsts_is p
  says_is Seconds p = seconds_is p
  says_is Holes p = holes_is p
  says_is Hole p = hole_is p
  says_is Cases p = cases_is p
  says_is Case p = case_is p
  says_is Members p = members_is p
  says_is Member p = member_is p
  says_is Body p = body_is p
  says_is Optional p = optional_is p
  says_is TypedOptional p = typed_is p
  says_is Arguments p = arguments_is p
  says_is Returned p = returned_is p
  says_is Handlers p = handlers_is p
  says_is Operand p = operand_in p
  says_is Trees p = refl
  says_is (Operands lean) p = refl

  told : Way → Part → Found
  told Skip v = []
  told Tree v = found v
  told (In g) v = says g (as_group v)
  told (Either g) v = found v ++ says g (as_group v)

  told_is : (w : Way) (v : Part) → one w v ≡ told w v
  unfolding one told
  told_is Skip v = refl
  told_is Tree v = refl
  told_is (In g) v = grouped g (says g) (says_is g) v
  told_is (Either g) v = ap (λ s. found v ++ s) (grouped g (says g) (says_is g) v)

  all_told : (ws : List Way) (n : ℕ) (p : Part) → placed one ws n p ≡ placed told ws n p
  unfolding placed
  all_told [] n p = refl
  all_told (w ∷ ws) n p =
      ap (λ s. s ++ placed one ws (suc n) p) (told_is w (part p n))
      ∙ ap (λ s. told w (part p n) ++ s) (all_told ws (suc n) p)

  -- ---- alternatives of their own
  names_is : (type_only : Bool) (p : Part) (n : ℕ)
      → declares x ts kind.Export type_only (group p n) 0 1
      ≡ inside (λ g. declared x ts kind.Export type_only g 0) (group p n)
  names_is type_only p n = go (part p n)
    where
      go : (v : Part)
          → declares x ts kind.Export type_only (as_group v) 0 1
          ≡ inside (λ g. declared x ts kind.Export type_only g 0) (as_group v)
      go absent = refl
      go nil = refl
      go (more v vs) = refl
      go (token m) = refl
      go (node label q s) = refl

  operand_is : (g v : Part) → part g 1 ≡ v → at g 1 ≡ operand x ts g v
  operand_is g absent is = refl
  operand_is g nil is = refl
  operand_is g (more v vs) is = ap found is
  operand_is g (token n) is = refl
  operand_is g (node label p s) is = refl

  called_is : (kind : DependencyKind) (p : Part)
      → calls x ts kind p ++ (at p 0 ++ (at (group p 1) 0 ++ [])) ≡ called x ts kind p
  called_is kind p =
      right3 (calls x ts kind p) (at p 0) (at (group p 1) 0)
      ∙ ap (λ k. calls x ts kind p ++ (at p 0 ++ k)) (may_is p 1)

  for_rest : (p : Part) (a : Found)
      → a ++ (at (group p 3) 0 ++ (at (group p 4) 0 ++ (at p 5 ++ []))) ≡ a ++ may p 3 ++ may p 4 ++ at p 5
  for_rest p a =
      left4 a (at (group p 3) 0) (at (group p 4) 0) (at p 5)
      ∙ ap (λ k. a ++ k ++ at (group p 4) 0 ++ at p 5) (may_is p 3)
      ∙ ap (λ k. a ++ may p 3 ++ k ++ at p 5) (may_is p 4)

  third : (p : Part) → at (group p 2) 0 ++ may p 3 ++ may p 4 ++ at p 5 ≡ may p 2 ++ may p 3 ++ may p 4 ++ at p 5
  third p = ap (λ k. k ++ may p 3 ++ may p 4 ++ at p 5) (may_is p 2)

  -- the group at a place is as it is told
  second_for : (p b : Part) → group p 1 ≡ b
      → placed told (for_ways false (is_there b)) 0 p ≡ first_of x ts b (may p 2) ++ may p 3 ++ may p 4 ++ at p 5
  unfolding placed told says
  second_for p absent e = for_rest p (at (group p 2) 0) ∙ third p
  second_for p nil e = for_rest p (at (group p 2) 0) ∙ third p
  second_for p (more v vs) e =
      for_rest p (at (group p 1) 0) ∙ ap (λ g. at g 0 ++ may p 3 ++ may p 4 ++ at p 5) e
  second_for p (token n) e = for_rest p (at (group p 2) 0) ∙ third p
  second_for p (node label q s) e = for_rest p (at (group p 2) 0) ∙ third p

  for_is : (p a b : Part) → group p 0 ≡ a → group p 1 ≡ b
      → placed told (for_ways (is_there a) (is_there b)) 0 p
      ≡ first_of x ts a (first_of x ts b (may p 2)) ++ may p 3 ++ may p 4 ++ at p 5
  unfolding placed told says
  for_is p absent b e f = second_for p b f
  for_is p nil b e f = second_for p b f
  for_is p (more v vs) b e f =
      for_rest p (at (group p 0) 0) ∙ ap (λ g. at g 0 ++ may p 3 ++ may p 4 ++ at p 5) e
  for_is p (token n) b e f = second_for p b f
  for_is p (node label q s) b e f = second_for p b f

  plan_own : (label : NodeKind) (p : Part) → names x ts label p ++ placed told (plan label p) 0 p ≡ own x ts label p
  unfolding names plan placed told says
  plan_own l.ExportDefaultFunction p = append-nil (own x ts l.ExportDefaultFunction p)
  plan_own l.ExportDefaultClass p = append-nil (own x ts l.ExportDefaultClass p)
  plan_own l.ExportDefaultExpression p = append-nil (own x ts l.ExportDefaultExpression p)
  plan_own l.ExportDeclaration p = append-nil (own x ts l.ExportDeclaration p)
  plan_own l.ExportDefaultInterface p = append-nil (own x ts l.ExportDefaultInterface p)
  plan_own l.ExportAssignment p = append-nil (own x ts l.ExportAssignment p)
  plan_own l.Module p = append-nil (own x ts l.Module p)
  plan_own l.Script p = append-nil (own x ts l.Script p)
  plan_own l.TemplateParts p = right2 (at p 1) (turns p 2 1)
  plan_own l.Parenthesized p = append-nil (own x ts l.Parenthesized p)
  plan_own l.ArrayLiteral p = append-nil (own x ts l.ArrayLiteral p)
  plan_own l.ObjectLiteral p = append-nil (own x ts l.ObjectLiteral p)
  plan_own l.Spread p = append-nil (own x ts l.Spread p)
  plan_own l.Function p = right2 (at p 2) (at p 3)
  plan_own l.AsyncFunction p = right2 (at p 2) (at p 3)
  plan_own l.Class p = right2 (at (group p 1) 0) (turns p 2 0) ∙ ap (λ k. k ++ turns p 2 0) (may_is p 1)
  plan_own l.New p = right2 (at p 0) (at (group p 1) 0) ∙ ap (λ k. at p 0 ++ k) (may_is p 1)
  plan_own l.Chain p = right3 (at p 0) (at p 1) (turns p 2 0)
  plan_own l.UpdatePrefix p = append-nil (own x ts l.UpdatePrefix p)
  plan_own l.UpdatePostfix p = append-nil (own x ts l.UpdatePostfix p)
  plan_own l.UnaryExpression p = append-nil (own x ts l.UnaryExpression p)
  plan_own l.AwaitExpression p = append-nil (own x ts l.AwaitExpression p)
  plan_own l.TypeAssertion p = append-nil (own x ts l.TypeAssertion p)
  plan_own l.Binary p = right2 (at p 0) (at p 2)
  plan_own l.PrivateIn p = append-nil (own x ts l.PrivateIn p)
  plan_own l.Conditional p = left3 (at p 0) (at p 1) (at p 2)
  plan_own l.Assignment p = right2 (at p 0) (at p 2)
  plan_own l.PatternAssignment p = right2 (at p 0) (at p 1)
  plan_own l.NameArrow p = append-nil (at (group p 1) 0)
  plan_own l.AsyncNameArrow p = append-nil (at (group p 1) 0)
  plan_own l.ParenthesizedArrow p = right2 (at p 0) (at (group p 1) 0)
  plan_own l.AsyncParenthesizedArrow p = right2 (at p 0) (at (group p 1) 0)
  plan_own l.Sequence p = right3 (at p 0) (at p 1) (turns p 2 0)
  plan_own l.Arguments p = append-nil (own x ts l.Arguments p)
  plan_own l.IndexPost p = append-nil (own x ts l.IndexPost p)
  plan_own l.CallPost p = append-nil (own x ts l.CallPost p)
  plan_own l.TemplatePost p = append-nil (own x ts l.TemplatePost p)
  plan_own l.TypedFunction p = right2 (at p 2) (at (group p 3) 0)
  plan_own l.TypedAsyncFunction p = right2 (at p 2) (at (group p 3) 0)
  plan_own l.TypedClass p = right2 (at (group p 2) 0) (turns p 4 0) ∙ ap (λ k. k ++ turns p 4 0) (may_is p 2)
  plan_own l.AbstractClass p = right2 (at (group p 2) 0) (turns p 4 0) ∙ ap (λ k. k ++ turns p 4 0) (may_is p 2)
  plan_own l.TypedNew p = right2 (at p 0) (at (group p 2) 0) ∙ ap (λ k. at p 0 ++ k) (may_is p 2)
  plan_own l.TypedParenthesizedArrow p = right2 (at p 1) (at (group p 3) 0)
  plan_own l.TypedAsyncParenthesizedArrow p = right2 (at p 1) (at (group p 3) 0)
  plan_own l.TypedCallPost p = append-nil (own x ts l.TypedCallPost p)
  plan_own l.TypedTemplatePost p = append-nil (own x ts l.TypedTemplatePost p)
  plan_own l.ComputedKey p = append-nil (own x ts l.ComputedKey p)
  plan_own l.SpreadProperty p = append-nil (own x ts l.SpreadProperty p)
  plan_own l.KeyValue p = right2 (at p 0) (at p 1)
  plan_own l.MethodProperty p = right3 (at p 0) (at p 1) (at p 2)
  plan_own l.GeneratorProperty p = right3 (at p 0) (at p 1) (at p 2)
  plan_own l.AsyncProperty p = right3 (at p 1) (at p 2) (at p 3)
  plan_own l.AccessorProperty p = right3 (at p 1) (at p 2) (at p 3)
  plan_own l.TypedMethodProperty p = inner3 (at (group p 0) 0) (at (group p 0) 1) (at p 1)
  plan_own l.TypedGeneratorProperty p = inner3 (at (group p 0) 0) (at (group p 0) 1) (at p 1)
  plan_own l.TypedAsyncProperty p = inner3 (at (group p 1) 0) (at (group p 1) 1) (at p 2)
  plan_own l.TypedAccessorProperty p = inner3 (at (group p 1) 0) (at (group p 1) 1) (at p 2)
  plan_own l.StaticBlock p = append-nil (own x ts l.StaticBlock p)
  plan_own l.MethodMember p = right3 (at p 1) (at p 2) (at p 3)
  plan_own l.GeneratorMember p = right3 (at p 1) (at p 2) (at p 3)
  plan_own l.AsyncMember p = right3 (at p 2) (at p 3) (at p 4)
  plan_own l.AccessorMember p = right3 (at p 2) (at p 3) (at p 4)
  plan_own l.FieldMember p = right2 (at p 1) (at (group p 2) 0) ∙ ap (λ k. at p 1 ++ k) (may_is p 2)
  plan_own l.AccessorField p = right2 (at p 1) (at (group p 2) 0) ∙ ap (λ k. at p 1 ++ k) (may_is p 2)
  plan_own l.TypedMethodMember p = inner3 (at (group p 1) 0) (at (group p 1) 2) (at (group p 2) 0)
  plan_own l.TypedGeneratorMember p = inner3 (at (group p 1) 0) (at (group p 1) 2) (at (group p 2) 0)
  plan_own l.TypedAsyncMember p = inner3 (at (group p 2) 0) (at (group p 2) 2) (at (group p 3) 0)
  plan_own l.TypedAccessorMember p = inner3 (at (group p 2) 0) (at (group p 2) 2) (at (group p 3) 0)
  plan_own l.TypedFieldMember p = right2 (at p 1) (at (group p 4) 0) ∙ ap (λ k. at p 1 ++ k) (may_is p 4)
  plan_own l.TypedAccessorField p = right2 (at p 1) (at (group p 4) 0) ∙ ap (λ k. at p 1 ++ k) (may_is p 4)
  plan_own l.ArrayPattern p = append-nil (own x ts l.ArrayPattern p)
  plan_own l.ObjectPattern p = append-nil (own x ts l.ObjectPattern p)
  plan_own l.RestPattern p = append-nil (own x ts l.RestPattern p)
  plan_own l.DefaultPattern p = right2 (at p 0) (at p 1)
  plan_own l.RestProperty p = append-nil (own x ts l.RestProperty p)
  plan_own l.KeyPattern p =
      right3 (at p 0) (at p 1) (at (group p 2) 0) ∙ ap (λ k. at p 0 ++ (at p 1 ++ k)) (may_is p 2)
  plan_own l.NameProperty p = append-nil (at (group p 1) 0) ∙ may_is p 1
  plan_own l.DefaultParameter p = right2 (at p 0) (at p 1)
  plan_own l.MarkedParameter p = right2 (at p 0) (at (group p 3) 0) ∙ ap (λ k. at p 0 ++ k) (may_is p 3)
  plan_own l.PropertyParameter p = right2 (at p 1) (at (group p 4) 0) ∙ ap (λ k. at p 1 ++ k) (may_is p 4)
  plan_own l.ThisParameter p = append-nil (at (group p 3) 0) ∙ may_is p 3
  plan_own l.Parameters p = right2 (turns p 0 0) (at (group p 1) 0) ∙ ap (λ k. turns p 0 0 ++ k) (may_is p 1)
  plan_own l.TypedParameters p = right2 (turns p 0 0) (at (group p 1) 0) ∙ ap (λ k. turns p 0 0 ++ k) (may_is p 1)
  plan_own l.Signature p = append-nil (own x ts l.Signature p)
  plan_own l.TypedSignature p = append-nil (own x ts l.TypedSignature p)
  plan_own l.Block p = append-nil (own x ts l.Block p)
  plan_own l.ExpressionStatement p = append-nil (own x ts l.ExpressionStatement p)
  plan_own l.LabelledStatement p = append-nil (own x ts l.LabelledStatement p)
  plan_own l.IfStatement p = left3 (at p 0) (at p 1) (at (group p 2) 0) ∙ ap (λ k. at p 0 ++ at p 1 ++ k) (may_is p 2)
  plan_own l.ForEachStatement p = left3 (at p 0) (at (group p 1) 1) (at p 2)
  plan_own l.ForAwaitStatement p = left3 (at p 0) (at p 1) (at p 2)
  plan_own l.WhileStatement p = right2 (at p 0) (at p 1)
  plan_own l.DoStatement p = right2 (at p 0) (at p 1)
  plan_own l.ThrowStatement p = append-nil (own x ts l.ThrowStatement p)
  plan_own l.WithStatement p = right2 (at p 0) (at p 1)
  plan_own l.VariableDeclaration p = append-nil (own x ts l.VariableDeclaration p)
  plan_own l.UsingDeclaration p = append-nil (own x ts l.UsingDeclaration p)
  plan_own l.Variables p = right2 (at p 1) (turns p 2 0)
  plan_own l.Using p = right2 (at p 1) (turns p 2 0)
  plan_own l.Declarator p = right2 (at p 0) (at p 1)
  plan_own l.TypedDeclarator p = right2 (at p 0) (at (group p 3) 0) ∙ ap (λ k. at p 0 ++ k) (may_is p 3)
  plan_own l.VariableHead p = append-nil (own x ts l.VariableHead p)
  plan_own l.TypedVariableHead p = append-nil (own x ts l.TypedVariableHead p)
  plan_own l.Declared p = append-nil (own x ts l.Declared p)
  plan_own l.DeclaredVariables p = append-nil (own x ts l.DeclaredVariables p)
  plan_own l.NamespaceDeclaration p = append-nil (own x ts l.NamespaceDeclaration p)
  plan_own l.GlobalDeclaration p = append-nil (own x ts l.GlobalDeclaration p)
  plan_own l.BareImport p = append-nil (own x ts l.BareImport p)
  plan_own l.FromImport p = append-nil (own x ts l.FromImport p)
  plan_own l.SourceImport p = append-nil (own x ts l.SourceImport p)
  plan_own l.DeferImport p = append-nil (own x ts l.DeferImport p)
  plan_own l.RequireImport p = append-nil (own x ts l.RequireImport p)
  plan_own l.ExportedRequireImport p = append-nil (own x ts l.ExportedRequireImport p)
  plan_own l.ExportAll p = append-nil (own x ts l.ExportAll p)
  plan_own l.ExportNames p =
      append-nil (declares x ts kind.Export (is_there (group p 0)) (group p 2) 0 1)
      ∙ names_is (is_there (group p 0)) p 2
  plan_own l.ImportCall p = called_is kind.Dynamic p
  plan_own l.SourceCall p = called_is kind.DynamicSource p
  plan_own l.DeferCall p = called_is kind.DynamicDefer p
  plan_own l.Yield p = append-nil (at (group p 0) 1) ∙ in_at (part p 0) 1
  plan_own l.OptionalPost p = append-nil (own x ts l.OptionalPost p)
  plan_own l.TypedBinary p =
      right2 (at p 0) (at (group p 1) 1)
      ∙ ap (λ k. at p 0 ++ k) (operand_is (group p 1) (part (group p 1) 1) refl)
  plan_own l.TypedOptionalPost p = append-nil (own x ts l.TypedOptionalPost p)
  plan_own l.ForStatement p = for_is p (group p 0) (group p 1) refl refl
  plan_own l.ReturnStatement p = append-nil (own x ts l.ReturnStatement p)
  plan_own l.SwitchStatement p = right2 (at p 0) (each (λ turn. may turn 0 ++ turns turn 1 0) (group p 1))
  plan_own l.TryStatement p = right2 (at p 0) (handled x ts (inside (λ q. at q 0)) (group p 1))
  plan_own l.TypedTryStatement p = right2 (at p 0) (handled x ts (inside (λ q. at q 0)) (group p 1))
  plan_own l.EnumDeclaration p = append-nil (own x ts l.EnumDeclaration p)
  plan_own l.ModuleDeclaration p = append-nil (own x ts l.ModuleDeclaration p)
  plan_own _ p = refl

  pub own_is : (label : NodeKind) (p : Part) → own x ts label p ≡ names x ts label p ++ taken (plan label p) Skip p
  own_is label p =
      sym (plan_own label p)
      ∙ ap (λ s. names x ts label p ++ s) (sym (in_order (plan label p) p ∙ all_told (plan label p) 0 p))
