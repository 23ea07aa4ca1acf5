-- What right sides add.
use Rattle.std.specs.Prelude.{ℕ, Bool, true, false, List, ◌∷◌, Option, Some, None, is_some, unwrap_or}
use Rattle.std.proofs.Common.{◌≡◌, refl, sym, ap, subst, ◌∙◌}
use Rattle.es_token.specs.declared.token.Token.{Token}
use Rattle.es_ast.specs.declared.ast.Expr.{Expr}
use Rattle.es_ast.specs.declared.ast.Prop.{Prop}
use Rattle.es_ast.specs.declared.ast.Stmt.{Stmt}
use Rattle.es_lowering.specs.Value.{Value, nil, more, given, as_group, turns, prop_at}
use Rattle.cjs_facts.specs.declared.found.Found.{Found}
use Rattle.cjs_facts.specs.Looks.{Name, Look, other, look, name_by, property, props_of, assigned_last, right_of}
use Rattle.cjs_facts.specs.Exports.{look_of, named_found, spread_found, props_found, required_found, right_found, exports_found}
use Rattle.cjs_looks.specs.Odd.{All, Linked}
use Rattle.cjs_looks.specs.Kinds.{IsObject, IsParen, IsNumber, IsSequence, IsSpread, IsFunction, IsAssignment}
use Rattle.cjs_looks.specs.Seen.{Tells, look_of as seen_of}
use Rattle.es_syntax.specs.declared.cursor.Item.{Item}
use Rattle.es_syntax.specs.Held.{valued}
use Rattle.es_syntax.specs.Roles.{expr_in}
use Rattle.cjs_looks.specs.declared.objects.properties.Property.{Property as SeenProperty}
use Rattle.cjs_looks.specs.objects.Properties.{IsProperty}
use Rattle.cjs_calls.specs.Rights.{Spreads, OneFound, Adds, AddsProps, IsLast, LastOf, Rights}

-- ---- properties
module _ (x : List ℕ) (ts : List Token) where
  pub spreads_none : (old : Found) → Spreads x ts None old old
  spreads_none old = record { adds = λ e is. ap (λ (o : Option Expr). spread_found (look_of o) old) (sym is) }

  some_spread : (e : Option Expr) (l : Look) (old new : Found) → is_some e ≡ true → Tells look e l
      → new ≡ spread_found l old → new ≡ spread_found (look_of e) old
  some_spread None l old new there told made = let bad : ⊥ = cc in absurd bad
  some_spread (Some e) l old new there told made =
      made ∙ ap (λ (k : Look). spread_found k old) (sym told.told)

  pub spreads_some : (i : Item) (l : Look) (old new : Found) → Tells look (expr_in (valued x ts i)) l
      → new ≡ spread_found l old → Spreads x ts (Some i) old new
  spreads_some i l old new told made = record {
    adds = λ e is.
        some_spread (expr_in (valued x ts i)) l old new is.1 told made
        ∙ ap (λ (o : Option Expr). spread_found (look_of o) old) (sym is.0);
  }

  pub property_adds : (told : SeenProperty) (old mid new : Found)
      → mid ≡ named_found (name_by (seen_of x ts told.name)) told.is_export old → Spreads x ts told.spread mid new
      → OneFound x ts told old new
  property_adds told old mid new named spreads = record {
    adds = λ prop is.
        spreads.adds (property prop).spread is.spreads
        ∙ ap (λ (f : Found). spread_found (look_of (property prop).spread) f)
        (named ∙ (ap (λ (o : Option Name). named_found o told.is_export old) (sym is.names)
        ∙ ap (λ (b : Bool). named_found (property prop).name b old) (sym is.exports)));
  }

  pub turn_found : (told : SeenProperty) (o : Option Prop) (old new : Found) → IsProperty x ts told o
      → OneFound x ts told old new → Adds o old new
  turn_found told None old new is one = record { adds = tt }
  turn_found told (Some prop) old new is one = record { adds = one.adds prop is.is }

-- ---- all properties
-- if what is left adds this to what is found by now, all add it to what was found before
pub record PropsLeft (start now : Found) (all left : Value) : Type 0 where
  pub adds : (new : Found) → AddsProps (turns (λ turn. prop_at turn 0) left) now new
      → AddsProps (turns (λ turn. prop_at turn 0) all) start new

pub props_all : (start : Found) (all : Value) → PropsLeft start start all all
props_all start all = record { adds = λ new a. a }

more_props : (now next new : Found) (o : Option Prop) (os : Option (List Prop)) → Adds o now next
    → AddsProps os next new → AddsProps (given o (λ a. given os (λ rest. Some (a ∷ rest)))) now new
more_props now next new None os a b = record { adds = tt }
more_props now next new (Some p) None a b = record { adds = tt }
more_props now next new (Some p) (Some ps) a b =
    record { adds = b.adds ∙ ap (λ (f : Found). props_found ps f) a.adds }

pub props_next : (start now next : Found) (all left v rest : Value) → left ≡ more v rest
    → PropsLeft start now all left → Adds (prop_at (as_group v) 0) now next → PropsLeft start next all rest
props_next start now next all left v rest e before a = record {
  adds = λ new b.
      before.adds new (subst (λ (w : Value). AddsProps (turns (λ turn. prop_at turn 0) w) now new) (sym e)
      (more_props now next new (prop_at (as_group v) 0) (turns (λ turn. prop_at turn 0) rest) a b));
}

pub props_done : (start now : Found) (all left : Value) → left ≡ nil → PropsLeft start now all left
    → AddsProps (turns (λ turn. prop_at turn 0) all) start now
props_done start now all left e before =
    before.adds now
    (subst (λ (w : Value). AddsProps (turns (λ turn. prop_at turn 0) w) now now) (sym e) (record { adds = refl }))

-- ---- the last of `a = b = c`
pub last_all : (o : Option Expr) → LastOf o o
last_all None = record { lasts = tt }
last_all (Some e) = record { lasts = (refl, refl) }

pub last_next : (whole last right : Option Expr) → LastOf whole last → All (IsAssignment right) last
    → LastOf whole right
unfolding right_of
last_next None last right before is = record { lasts = tt }
last_next (Some e) None right before is = let not_so : false ≡ true = before.lasts.0 in let bad : ⊥ = cc in absurd bad
last_next (Some e) (Some l) None before is = let not_so : false ≡ true = is.all.there in let bad : ⊥ = cc in absurd bad
last_next (Some e) (Some l) (Some r) before is = record {
  lasts = (refl, before.lasts.1 ∙ ap (λ (o : Option Expr). unwrap_or o l) is.all.ends);
}

-- ---- by kinds
itself : (e : Expr) → assigned_last e ≡ None → right_of e ≡ e
unfolding right_of
itself e ends = ap (λ (o : Option Expr). unwrap_or o e) ends

exports_by : (e : Expr) (props : Option (List Prop)) (l : Look) (f : Found) → look e ≡ l → props_of e ≡ props
    → exports_found e f ≡ right_found l props f
unfolding exports_found
exports_by e props l f looks holds =
    ap (λ (k : Look). right_found k (props_of e) f) looks ∙ ap (λ (o : Option (List Prop)). right_found l o f) holds

-- what stands last adds what the whole does
pub rights_last : (whole last : Option Expr) (old new : Found) → LastOf whole last → Rights last old new
    → Rights whole old new
rights_last None last old new lasts r = record { adds = tt }
rights_last (Some e) None old new lasts r =
    let not_so : false ≡ true = lasts.lasts.0 in let bad : ⊥ = cc in absurd bad
rights_last (Some e) (Some l) old new lasts r = record {
  adds = r.adds ∙ ap (λ (a : Expr). exports_found a old) (sym lasts.lasts.1);
}

by_itself : (o : Option Expr) (old new : Found)
    → ((e : Expr) → o ≡ Some e → new ≡ exports_found (right_of e) old) → Rights o old new
by_itself None old new each = record { adds = tt }
by_itself (Some e) old new each = record { adds = each e refl }

module _ (last : Option Expr) (old new : Found) where
  -- one that is no object and looks so
  unlike : (l : Look) → ((e : Expr) → last ≡ Some e → (look e ≡ l) × ((props_of e ≡ None) × (assigned_last e ≡ None)))
      → new ≡ required_found l old → Rights last old new
  unlike l is made =
      by_itself last old new (λ e same.
      made ∙ sym (ap (λ (a : Expr). exports_found a old) (itself e (is e same).1.1)
      ∙ exports_by e None l old (is e same).0 (is e same).1.0))

  pub rights_plain : (l : Look) → All (Linked l) last → new ≡ required_found l old → Rights last old new
  rights_plain l a made = unlike l (go last a) made
    where
      go : (o : Option Expr) → All (Linked l) o → (e : Expr) → o ≡ Some e
          → (look e ≡ l) × ((props_of e ≡ None) × (assigned_last e ≡ None))
      go None a e same = let bad : ⊥ = cc in absurd bad
      go (Some b) a e same =
          subst (λ (o : Option Expr). (look (unwrap_or o b) ≡ l)
          × ((props_of (unwrap_or o b) ≡ None) × (assigned_last (unwrap_or o b) ≡ None))) same
          (a.all.0, (a.all.1.holds, a.all.1.ends))

  object_props : (o : Option (List Prop)) (e : Expr) → props_of e ≡ o → is_some o ≡ true → AddsProps o old new
      → new ≡ exports_found e old
  object_props None e holds there adds = let bad : ⊥ = cc in absurd bad
  object_props (Some props) e holds there adds =
      adds.adds ∙ sym (exports_by e (Some props) (look e) old refl holds)

  pub rights_object : (props : Option (List Prop)) → All (IsObject props) last → AddsProps props old new
      → Rights last old new
  rights_object props a adds = by_itself last old new (go last a)
    where
      go : (o : Option Expr) → All (IsObject props) o → (e : Expr) → o ≡ Some e
          → new ≡ exports_found (right_of e) old
      go None a e same = let bad : ⊥ = cc in absurd bad
      go (Some b) a e same =
          subst (λ (o : Option Expr). new ≡ exports_found (right_of (unwrap_or o b)) old) same
          (object_props props b a.all.holds a.all.there adds
          ∙ ap (λ (c : Expr). exports_found c old) (sym (itself b a.all.ends)))

module _ (last : Option Expr) (old : Found) where
  -- one that looks like nothing
  odd : ((e : Expr) → last ≡ Some e → (look e ≡ other) × ((props_of e ≡ None) × (assigned_last e ≡ None)))
      → Rights last old old
  odd is = unlike last old old other is refl

  abbrev IsOdd : Option Expr → Type 0
  IsOdd o = (e : Expr) → o ≡ Some e → (look e ≡ other) × ((props_of e ≡ None) × (assigned_last e ≡ None))

  one_odd : (b : Expr) → look b ≡ other → props_of b ≡ None → assigned_last b ≡ None → IsOdd (Some b)
  one_odd b l h n e same =
      subst (λ (o : Option Expr). (look (unwrap_or o b) ≡ other)
      × ((props_of (unwrap_or o b) ≡ None) × (assigned_last (unwrap_or o b) ≡ None))) same (l, (h, n))

  none_odd : IsOdd None
  none_odd e same = let bad : ⊥ = cc in absurd bad

  pub rights_paren : (inner : Option Expr) → All (IsParen inner) last → Rights last old old
  rights_paren inner a = odd (go last a)
    where
      go : (o : Option Expr) → All (IsParen inner) o → IsOdd o
      go None a = none_odd
      go (Some b) a = one_odd b a.all.looks a.all.holds a.all.ends

  pub rights_number : (is : Bool) → All (IsNumber is) last → Rights last old old
  rights_number is a = odd (go last a)
    where
      go : (o : Option Expr) → All (IsNumber is) o → IsOdd o
      go None a = none_odd
      go (Some b) a = one_odd b a.all.looks a.all.holds a.all.ends

  pub rights_sequence : (first second : Option Expr) (others : Option (List Expr))
      → All (IsSequence first second others) last → Rights last old old
  rights_sequence first second others a = odd (go last a)
    where
      go : (o : Option Expr) → All (IsSequence first second others) o → IsOdd o
      go None a = none_odd
      go (Some b) a = one_odd b a.all.looks a.all.holds a.all.ends

  pub rights_spread : All IsSpread last → Rights last old old
  rights_spread a = odd (go last a)
    where
      go : (o : Option Expr) → All IsSpread o → IsOdd o
      go None a = none_odd
      go (Some b) a = one_odd b a.all.looks a.all.holds a.all.ends

  pub rights_function : (body : Option (Option Stmt)) → All (IsFunction body) last → Rights last old old
  rights_function body a = odd (go last a)
    where
      go : (o : Option Expr) → All (IsFunction body) o → IsOdd o
      go None a = none_odd
      go (Some b) a = one_odd b a.all.looks a.all.holds a.all.ends

-- ---- what is no assignment by `=`, and what is one
ends : (P : Expr → Type 0) (o : Option Expr) → All P o → ((e : Expr) → P e → IsLast e) → All IsLast o
ends P None a each = record { all = tt }
ends P (Some e) a each = record { all = each e a.all }

module _ (o : Option Expr) where
  pub ends_plain : (l : Look) → All (Linked l) o → All IsLast o
  ends_plain l a = ends (Linked l) o a (λ e is. is.1.ends)

  pub ends_object : (props : Option (List Prop)) → All (IsObject props) o → All IsLast o
  ends_object props a = ends (IsObject props) o a (λ e is. is.ends)

  pub ends_paren : (inner : Option Expr) → All (IsParen inner) o → All IsLast o
  ends_paren inner a = ends (IsParen inner) o a (λ e is. is.ends)

  pub ends_number : (is : Bool) → All (IsNumber is) o → All IsLast o
  ends_number is a = ends (IsNumber is) o a (λ e is. is.ends)

  pub ends_sequence : (first second : Option Expr) (others : Option (List Expr))
      → All (IsSequence first second others) o → All IsLast o
  ends_sequence first second others a = ends (IsSequence first second others) o a (λ e is. is.ends)

  pub ends_spread : All IsSpread o → All IsLast o
  ends_spread a = ends IsSpread o a (λ e is. is.ends)

  pub ends_function : (body : Option (Option Stmt)) → All (IsFunction body) o → All IsLast o
  ends_function body a = ends (IsFunction body) o a (λ e is. is.ends)

pub rights_assigned : (last right : Option Expr) (old : Found) → All (IsAssignment right) last → All IsLast last
    → Rights last old old
rights_assigned None right old is not = record { adds = tt }
rights_assigned (Some e) None old is not =
    let not_so : false ≡ true = is.all.there in let bad : ⊥ = cc in absurd bad
rights_assigned (Some e) (Some r) old is not =
    let not_so : Some (right_of r) ≡ None = sym is.all.ends ∙ not.all in let bad : ⊥ = cc in absurd bad
