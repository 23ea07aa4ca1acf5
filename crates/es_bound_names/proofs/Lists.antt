-- What lists add, part by part.
use Rattle.std.specs.Prelude.{ℕ, List, [], ◌∷◌, ◌++◌, Option, Some, None}
use Rattle.std.specs.List.{flat_map}
use Rattle.std.proofs.Common.{◌≡◌, refl, sym, ap, subst, ◌∙◌}
use Rattle.std.proofs.lemmas.List.{append-nil, append_assoc}
use Rattle.es_lowering.specs.Value.{Value, nil, more, given, as_group, turns}
use Rattle.es_bound_names.specs.Names.{Names}
use Rattle.es_bound_names.specs.Adds.{Adds}

-- a part that isn't there adds what it likes
pub adds_nothing : {A : Type 0} (f : A → Names) (old new : Names) (o : Option A) → o ≡ None → Adds f old new o
adds_nothing f old new None e = record { added = tt }
adds_nothing f old new (Some a) e = let bad : ⊥ = cc in absurd bad

pub adds_none : {A : Type 0} (f : A → Names) (old : Names) → Adds (flat_map f) old old (Some [])
adds_none f old = record { added = sym (append-nil old) }

-- one, and the others behind it
pub adds_more : {A : Type 0} (f : A → Names) (old mid new : Names) (o : Option A) (os : Option (List A))
    → Adds f old mid o → Adds (flat_map f) mid new os
    → Adds (flat_map f) old new (given o (λ a. given os (λ rest. Some (a ∷ rest))))
adds_more f old mid new None os a b = record { added = tt }
adds_more f old mid new (Some it) None a b = record { added = tt }
adds_more f old mid new (Some it) (Some rest) a b =
    record { added = b.added ∙ (ap (λ m. m ++ flat_map f rest) a.added ∙ append_assoc old (f it) (flat_map f rest)) }

-- ---- turns
-- if what is left adds these names to those found by now, all turns add them to those found before
pub record TurnsLeft {A : Type 0} (f : A → Names) (one : Value → Option A) (start now : Names) (all left : Value)
    : Type 0 where
  pub adds : (new : Names) → Adds (flat_map f) now new (turns one left) → Adds (flat_map f) start new (turns one all)

pub turns_all : {A : Type 0} (f : A → Names) (one : Value → Option A) (start : Names) (all : Value)
    → TurnsLeft f one start start all all
turns_all f one start all = record { adds = λ new a. a }

pub turns_next : {A : Type 0} (f : A → Names) (one : Value → Option A) (start now next : Names)
    (all left v rest : Value) → left ≡ more v rest → TurnsLeft f one start now all left
    → Adds f now next (one (as_group v)) → TurnsLeft f one start next all rest
turns_next f one start now next all left v rest e before a = record {
  adds = λ new b.
      before.adds new (subst (λ (w : Value). Adds (flat_map f) now new (turns one w)) (sym e)
      (adds_more f now next new (one (as_group v)) (turns one rest) a b));
}

pub turns_done : {A : Type 0} (f : A → Names) (one : Value → Option A) (start now : Names) (all left : Value)
    → left ≡ nil → TurnsLeft f one start now all left → Adds (flat_map f) start now (turns one all)
turns_done f one start now all left e before =
    before.adds now (subst (λ (w : Value). Adds (flat_map f) now now (turns one w)) (sym e) (adds_none f now))
