-- What callees look like.
use Rattle.std.specs.Prelude.{Bool, true, false, List, [], ◌∷◌, Option, Some, None, is_some, unwrap_or, if◌then◌else◌}
use Rattle.std.proofs.Common.{◌≡◌, refl, sym, ap, subst, ◌∙◌}
use Rattle.es_ast.specs.declared.ast.Expr.{Expr, out-Expr}
use Rattle.es_ast.specs.declared.ast.Prop.{Prop}
use Rattle.es_ast.specs.declared.ast.Stmt.{Stmt}
use Rattle.es_lowering.specs.Value.{Value, nil, more, given, as_group, turns, expr_at}
use Rattle.cjs_facts.specs.Looks.{Look, other, look, behind_zero, callee_look}
use Rattle.cjs_looks.specs.Odd.{All, Linked}
use Rattle.cjs_looks.specs.Kinds.{pair_of, IsObject, IsParen, IsNumber, IsSequence, IsSpread, IsFunction, IsAssignment}
use Rattle.cjs_looks.specs.Seen.{Tells}
use Rattle.cjs_looks.specs.objects.Returns.{Meets, Gives}
use Rattle.cjs_calls.specs.Callees.{zero_of, behind_in, Pairs, InBrackets}

-- ---- what stands behind a zero
pub pairs_more : (first second : Option Expr) (v u us : Value) → v ≡ more u us
    → Pairs None first second (turns (λ turn. expr_at turn 0) v)
pairs_more first second v u us e =
    subst (λ (w : Value). Pairs None first second (turns (λ turn. expr_at turn 0) w)) (sym e)
    (record { are = λ here there. go first second (expr_at (as_group u) 0) (turns (λ turn. expr_at turn 0) us) })
  where
    go : (first second o : Option Expr) (os : Option (List Expr))
        → pair_of first second (given o (λ a. given os (λ rest. Some (a ∷ rest)))) ≡ None
    go None second o os = refl
    go (Some a) None o os = refl
    go (Some a) (Some b) None os = refl
    go (Some a) (Some b) (Some c) None = refl
    go (Some a) (Some b) (Some c) (Some cs) = refl

pub pairs_other : (first second : Option Expr) (v : Value) (is : Bool) → v ≡ nil → Tells zero_of first is → is ≡ false
    → Pairs None first second (turns (λ turn. expr_at turn 0) v)
pairs_other first second v is e told not_so =
    subst (λ (w : Value). Pairs None first second (turns (λ turn. expr_at turn 0) w)) (sym e)
    (record { are = λ here there. go first second (subst (λ (b : Bool). Tells zero_of first b) not_so told) })
  where
    go : (first second : Option Expr) → Tells zero_of first false → pair_of first second (Some []) ≡ None
    go None second told = refl
    go (Some a) None told = refl
    go (Some a) (Some b) told = ap (λ (c : Bool). if c then Some b else None) told.told

pub pairs_zero : (first second : Option Expr) (v : Value) (is : Bool) → v ≡ nil → Tells zero_of first is → is ≡ true
    → Pairs (Some second) first second (turns (λ turn. expr_at turn 0) v)
pairs_zero first second v is e told is_so =
    subst (λ (w : Value). Pairs (Some second) first second (turns (λ turn. expr_at turn 0) w)) (sym e)
    (record {
      are = λ here there.
          (go first second (subst (λ (b : Bool). Tells zero_of first b) is_so told) here there, there);
    })
  where
    go : (first second : Option Expr) → Tells zero_of first true → is_some first ≡ true → is_some second ≡ true
        → pair_of first second (Some []) ≡ second
    go None second told here there = let bad : ⊥ = cc in absurd bad
    go (Some a) None told here there = refl
    go (Some a) (Some b) told here there = ap (λ (c : Bool). if c then Some b else None) told.told

-- ---- by kinds
pub behind_plain : (l : Look) (o : Option Expr) → All (Linked l) o → Gives behind_in o None
behind_plain l None a = record { gives = tt }
behind_plain l (Some e) a = record { gives = a.all.1.pairs }

pub behind_object : (props : Option (List Prop)) (o : Option Expr) → All (IsObject props) o → Gives behind_in o None
behind_object props None a = record { gives = tt }
behind_object props (Some e) a = record { gives = a.all.pairs }

pub behind_paren : (inner o : Option Expr) → All (IsParen inner) o → Gives behind_in o None
behind_paren inner None a = record { gives = tt }
behind_paren inner (Some e) a = record { gives = a.all.pairs }

pub behind_number : (is : Bool) (o : Option Expr) → All (IsNumber is) o → Gives behind_in o None
behind_number is None a = record { gives = tt }
behind_number is (Some e) a = record { gives = a.all.pairs }

pub behind_sequence : (answer : Option (Option Expr)) (first second : Option Expr) (others : Option (List Expr))
    (o : Option Expr) → All (IsSequence first second others) o → Pairs answer first second others
    → Gives behind_in o answer
behind_sequence answer first second others None a pairs = record { gives = tt }
behind_sequence answer first second others (Some e) a pairs = record {
  gives = subst (λ (it : Option Expr). Meets answer it) (sym a.all.pairs) (pairs.are a.all.there a.all.there_too);
}

pub behind_spread : (o : Option Expr) → All IsSpread o → Gives behind_in o None
behind_spread None a = record { gives = tt }
behind_spread (Some e) a = record { gives = a.all.pairs }

pub behind_function : (body : Option (Option Stmt)) (o : Option Expr) → All (IsFunction body) o → Gives behind_in o None
behind_function body None a = record { gives = tt }
behind_function body (Some e) a = record { gives = a.all.pairs }

pub behind_assigned : (right o : Option Expr) → All (IsAssignment right) o → Gives behind_in o None
behind_assigned right None a = record { gives = tt }
behind_assigned right (Some e) a = record { gives = a.all.pairs }

-- ---- in brackets
pub brackets_nothing : (inner : Option Expr) → Gives behind_in inner None → InBrackets other inner
unfolding callee_look
brackets_nothing None given =
    record { looks = λ e is. let bad : ⊥ = (let not_so : false ≡ true = is.there in cc) in absurd bad }
brackets_nothing (Some a) given = record {
  looks = λ e is. ap (λ (o : Option Expr). look (unwrap_or o e)) (is.follows ∙ given.gives) ∙ is.looks;
}

pub brackets_second : (inner second : Option Expr) (l : Look) → Gives behind_in inner (Some second)
    → Tells look second l → InBrackets l inner
unfolding callee_look
brackets_second None second l given told =
    record { looks = λ e is. let bad : ⊥ = (let not_so : false ≡ true = is.there in cc) in absurd bad }
brackets_second (Some a) None l given told = let not_so : false ≡ true = given.gives.1 in let bad : ⊥ = cc in absurd bad
brackets_second (Some a) (Some s) l given told = record {
  looks = λ e is. ap (λ (o : Option Expr). look (unwrap_or o e)) (is.follows ∙ given.gives.0) ∙ told.told;
}

-- ---- callees
itself : (e : Expr) (l : Look) → look e ≡ l → behind_zero (out-Expr e) ≡ None → callee_look e ≡ l
unfolding callee_look
itself e l looks follows = ap (λ (o : Option Expr). look (unwrap_or o e)) follows ∙ looks

pub callee_plain : (l : Look) (o : Option Expr) → All (Linked l) o → Tells callee_look o l
callee_plain l None a = record { told = tt }
callee_plain l (Some e) a = record { told = itself e l a.all.0 a.all.1.follows }

pub callee_object : (props : Option (List Prop)) (o : Option Expr) → All (IsObject props) o → Tells callee_look o other
callee_object props None a = record { told = tt }
callee_object props (Some e) a = record { told = itself e other a.all.looks a.all.follows }

pub callee_paren : (inner o : Option Expr) (l : Look) → All (IsParen inner) o → InBrackets l inner
    → Tells callee_look o l
callee_paren inner None l a is = record { told = tt }
callee_paren inner (Some e) l a is = record { told = is.looks e a.all }

pub callee_number : (is : Bool) (o : Option Expr) → All (IsNumber is) o → Tells callee_look o other
callee_number is None a = record { told = tt }
callee_number is (Some e) a = record { told = itself e other a.all.looks a.all.follows }

pub callee_sequence : (first second : Option Expr) (others : Option (List Expr)) (o : Option Expr)
    → All (IsSequence first second others) o → Tells callee_look o other
callee_sequence first second others None a = record { told = tt }
callee_sequence first second others (Some e) a = record { told = itself e other a.all.looks a.all.follows }

pub callee_spread : (o : Option Expr) → All IsSpread o → Tells callee_look o other
callee_spread None a = record { told = tt }
callee_spread (Some e) a = record { told = itself e other a.all.looks a.all.follows }

pub callee_function : (body : Option (Option Stmt)) (o : Option Expr) → All (IsFunction body) o
    → Tells callee_look o other
callee_function body None a = record { told = tt }
callee_function body (Some e) a = record { told = itself e other a.all.looks a.all.follows }

pub callee_assigned : (right o : Option Expr) → All (IsAssignment right) o → Tells callee_look o other
callee_assigned right None a = record { told = tt }
callee_assigned right (Some e) a = record { told = itself e other a.all.looks a.all.follows }
