-- Lists: the bodies that are added.
use Rattle.std.specs.Prelude.{ℕ, Bool, true, false, not, ◌&&◌, List, [], ◌∷◌, ◌++◌, map, bytes_eq, Option, Some, None, option_map, IfSome}
use Rattle.std.specs.Cmp.Lexicographic.{pointwise}
use Rattle.std.proofs.Common.{◌≡◌, refl, sym, ap, subst, ◌∙◌}
use Rattle.base.specs.declared.range.Range.{Range}
use Rattle.es_ast.specs.declared.ast.Stmt.{Stmt}
use Rattle.es_lowering.specs.Value.{Value, nil, more, absent, token, node, given, part, as_group, group, turns, stmt_at, item_at, member_at}
use Rattle.dts_rules.specs.Ranges.{Ranges, Name, Head, same_path, same_name, implements, has_range}
use Rattle.dts_overloads.specs.declared.heads.Head.{Head as AHead}
use Rattle.dts_overloads.specs.declared.heads.Kind.{Kind}
use Rattle.dts_overloads.specs.declared.heads.Kind.TheVariants as kind
use Rattle.dts_overloads.specs.Among.{Among, none, ◌∪◌, all_of, bodies, stmt_head, item_head, member_head, own_stmts, own_items, own_members}
use Rattle.dts_overloads.specs.Met.{Told}
use Rattle.dts_overloads.specs.Own.{stmts_told, items_told, members_told, cases_told}
use Rattle.dts_overloads.specs.Left.{Gives}
use Rattle.dts_overloads.specs.Heads.{head_of, heads_of, if_there, HeadsIn, heads_in, list_heads, Added}
use Rattle.dts_overloads.proofs.Laws.{has_both, or_none, or_assoc}

pub same_path_is : (a b : List (List ℕ)) → same_path a b ≡ pointwise (λ a b. bytes_eq a b) a b
same_path_is [] [] = refl
same_path_is [] (b ∷ bs) = refl
same_path_is (a ∷ others) [] = refl
same_path_is (a ∷ others) (b ∷ bs) = ap (λ (c : Bool). bytes_eq a b && c) (same_path_is others bs)

-- ---- whether an item implements what is before it
by_tests : (a b c : Bool) (it before : Head) → before.has_body ≡ a → it.has_body ≡ b
    → same_name before.name it.name ≡ c
    → implements (Some before) (Some it) ≡ if_there (not a && (b && c)) it.span
by_tests true b c it before e f g = rw e refl
by_tests false true true it before e f g = rw (e, f, g) refl
by_tests false true false it before e f g = rw (e, f, g) refl
by_tests false false c it before e f g = rw (e, f) refl

pub follows_body : (before it : Head) → before.has_body ≡ true
    → implements (Some before) (Some it) ≡ if_there false it.span
follows_body before it e = by_tests true it.has_body (same_name before.name it.name) it before e refl refl

pub follows_name : (before it : Head) (c : Bool) → before.has_body ≡ false → it.has_body ≡ true
    → same_name before.name it.name ≡ c → implements (Some before) (Some it) ≡ if_there c it.span
follows_name before it c e f g = by_tests false true c it before e f g

pub follows_none : (before it : Head) → before.has_body ≡ false → it.has_body ≡ false
    → implements (Some before) (Some it) ≡ if_there false it.span
follows_none before it e f = by_tests false false (same_name before.name it.name) it before e f refl

pub added_one : (old new : Ranges) (span : Range) (is : Ranges) → new ≡ old ++ span ∷ [] → is ≡ span ∷ []
    → has_range new ≡ has_range old ∪ has_range is
added_one old new span is e f =
    ap has_range e ∙ has_both old (span ∷ []) ∙ ap (λ (s : Ranges). has_range old ∪ has_range s) (sym f)

pub added_none : (old : Ranges) (is : Ranges) → is ≡ [] → has_range old ≡ has_range old ∪ has_range is
added_none old is f =
    sym (or_none (has_range old)) ∙ ap (λ (s : Ranges). has_range old ∪ has_range s) (sym f)

pub added_no_first : (old : Ranges) (it : Option Head) → has_range old ≡ has_range old ∪ has_range (implements None it)
added_no_first old None = sym (or_none (has_range old))
added_no_first old (Some it) = sym (or_none (has_range old))

pub added_no_second : (old : Ranges) (before : Option Head)
    → has_range old ≡ has_range old ∪ has_range (implements before None)
added_no_second old None = sym (or_none (has_range old))
added_no_second old (Some it) = sym (or_none (has_range old))

-- ---- a list
pub record BodiesLeft (k : Kind) (before : Option Head) (start now : List Range) (all left : Value) : Type 0 where
  pub adds : (new : List Range) → Added k before left now new → Added k None all start new

pub bodies_all : (k : Kind) (start : List Range) (all : Value) → BodiesLeft k None start start all all
bodies_all k start all = record { adds = λ new a. a }

abbrev Adds : Option Head → Option (List (Option Head)) → Ranges → Ranges → Type 0
Adds before o old new = IfSome o (λ hs. has_range new ≡ has_range old ∪ has_range (bodies before hs))

added_more : (before : Option Head) (head : Option AHead) (o : Option (Option Head)) (os : Option (List (Option Head)))
    (now next new : Ranges) → HeadsIn head o
    → has_range next ≡ has_range now ∪ has_range (implements before (heads_of head)) → Adds (heads_of head) os next new
    → Adds before (given o (λ h. given os (λ rest. Some (h ∷ rest)))) now new
added_more before head None os now next new h e a = tt
added_more before head (Some it) None now next new h e a = tt
added_more before head (Some it) (Some hs) now next new h e a =
    a ∙ ap (λ (z : Among). z ∪ has_range (bodies (heads_of head) hs)) e
    ∙ or_assoc (has_range now) (has_range (implements before (heads_of head))) (has_range (bodies (heads_of head) hs))
    ∙ ap (λ (z : Among). has_range now ∪ z)
    (sym (has_both (implements before (heads_of head)) (bodies (heads_of head) hs)))
    ∙ ap (λ (h : Option Head). has_range now ∪ has_range (implements before h ++ bodies h hs)) (sym h.heads)

pub bodies_next : (k : Kind) (before : Option Head) (head : Option AHead) (start now next : List Range)
    (all v a vs : Value) → v ≡ more a vs → BodiesLeft k before start now all v
    → HeadsIn head (heads_in k (part (as_group a) 0))
    → has_range next ≡ has_range now ∪ has_range (implements before (heads_of head))
    → BodiesLeft k (heads_of head) start next all vs
bodies_next k before head start now next all v a vs e left h f = record {
  adds = λ new added.
      left.adds new
      (subst (λ (w : Value). Added k before w now new) (sym e)
      (record {
        added = added_more before head (heads_in k (part (as_group a) 0)) (list_heads k vs) now next new h f added.added;
      }));
}

pub bodies_done : (k : Kind) (before : Option Head) (start now : List Range) (all v : Value) → v ≡ nil
    → BodiesLeft k before start now all v → Added k None all start now
bodies_done k before start now all v e left =
    left.adds now
    (subst (λ (w : Value). Added k before w now now) (sym e) (record { added = sym (or_none (has_range now)) }))

-- ---- by what is in it
turns_mapped : {A : Type 0} (f : A → Option Head) (one : Value → Option A) (v : Value)
    → turns (λ turn. option_map f (one turn)) v ≡ option_map (map f) (turns one v)
turns_mapped f one (more a vs) =
    ap (λ (os : Option (List (Option Head))). given (option_map f (one (as_group a))) (λ h. given os (λ rest.
    Some (h ∷ rest)))) (turns_mapped f one vs)
    ∙ go (one (as_group a)) (turns one vs)
  where
    go : (o : Option _) (os : Option (List _))
        → given (option_map f o) (λ h. given (option_map (map f) os) (λ rest. Some (h ∷ rest)))
        ≡ option_map (map f) (given o (λ a. given os (λ rest. Some (a ∷ rest))))
    go None os = refl
    go (Some a) None = refl
    go (Some a) (Some xs) = refl
turns_mapped f one nil = refl
turns_mapped f one absent = refl
turns_mapped f one (token n) = refl
turns_mapped f one (node from to m) = refl

told_by : {A : Type 0} (f : A → Option Head) (own : List A → Among) (o : Option (List A))
    (hs : Option (List (Option Head))) (old new : Ranges)
    → ((xs : List A) → has_range (bodies None (map f xs)) ≡ own xs) → hs ≡ option_map (map f) o → Adds None hs old new
    → Gives (option_map own o) old new
told_by f own None hs old new same e a = tt
told_by f own (Some xs) hs old new same e a =
    let b : has_range new ≡ has_range old ∪ has_range (bodies None (map f xs))
    = subst (λ (hs : Option (List (Option Head))). Adds None hs old new) e a in
    b ∙ ap (λ (z : Among). has_range old ∪ z) (same xs)

module _ (v g : Value) (old new : List Range) (e : g ≡ v) where
  pub gives_stmts : Added kind.Stmts None g old new → Gives (stmts_told v) old new
  unfolding own_stmts
  gives_stmts a =
      told_by stmt_head own_stmts (turns (λ turn. stmt_at turn 0) v) (list_heads kind.Stmts v) old new (λ xs. refl)
      (turns_mapped stmt_head (λ turn. stmt_at turn 0) v)
      (subst (λ (w : Value). Added kind.Stmts None w old new) e a).added

  pub gives_items : Added kind.Items None g old new → Gives (items_told v) old new
  unfolding own_items
  gives_items a =
      told_by item_head own_items (turns (λ turn. item_at turn 0) v) (list_heads kind.Items v) old new (λ xs. refl)
      (turns_mapped item_head (λ turn. item_at turn 0) v)
      (subst (λ (w : Value). Added kind.Items None w old new) e a).added

  pub gives_members : Added kind.Members None g old new → Gives (members_told v) old new
  unfolding own_members
  gives_members a =
      told_by member_head own_members (turns (λ turn. member_at turn 0) v) (list_heads kind.Members v) old new
      (λ xs. refl) (turns_mapped member_head (λ turn. member_at turn 0) v)
      (subst (λ (w : Value). Added kind.Members None w old new) e a).added

  pub gives_cases : Gives (cases_told g) old new → Gives (cases_told v) old new
  gives_cases h = subst (λ (w : Value). Gives (cases_told w) old new) e h

pub gives_inner : (p h g : Value) (old new : List Range) → h ≡ group p 1 → g ≡ group h 0
    → Added kind.Items None g old new → Gives (items_told (group (group p 1) 0)) old new
gives_inner p h g old new e f a = gives_items (group (group p 1) 0) g old new (f ∙ ap (λ (w : Value). group w 0) e) a

-- ---- clauses of `switch`
pub record CasesLeft (start now : List Range) (all left : Value) : Type 0 where
  pub adds : (new : List Range) → Gives (cases_told left) now new → Gives (cases_told all) start new

pub cases_all : (start : List Range) (all : Value) → CasesLeft start start all all
cases_all start all = record { adds = λ new g. g }

cases_more : (o : Option (List Stmt)) (os : Option (List (List Stmt))) (now next new : Ranges)
    → Gives (option_map own_stmts o) now next → Gives (option_map (all_of own_stmts) os) next new
    → Gives (option_map (all_of own_stmts) (given o (λ a. given os (λ rest. Some (a ∷ rest))))) now new
cases_more None os now next new g h = tt
cases_more (Some a) None now next new g h = tt
cases_more (Some a) (Some xs) now next new g h =
    h ∙ ap (λ (z : Among). z ∪ all_of own_stmts xs) g ∙ or_assoc (has_range now) (own_stmts a) (all_of own_stmts xs)

pub cases_next : (start now next : List Range) (all v a vs h g : Value) → v ≡ more a vs → CasesLeft start now all v
    → h ≡ as_group a → g ≡ group h 1 → Added kind.Stmts None g now next → CasesLeft start next all vs
cases_next start now next all v a vs h g e left f i added = record {
  adds = λ new gives.
      left.adds new
      (subst (λ (w : Value). Gives (cases_told w) now new) (sym e)
      (cases_more (turns (λ turn. stmt_at turn 0) (group (as_group a) 1))
      (turns (λ turn. turns (λ turn. stmt_at turn 0) (group turn 1)) vs) now next new
      (gives_stmts (group (as_group a) 1) g now next (i ∙ ap (λ (w : Value). group w 1) f) added) gives));
}

pub cases_done : (start now : List Range) (all v : Value) → v ≡ nil → CasesLeft start now all v
    → Gives (cases_told all) start now
cases_done start now all v e left =
    left.adds now
    (subst (λ (w : Value). Gives (cases_told w) now now) (sym e) (sym (or_none (has_range now))))
