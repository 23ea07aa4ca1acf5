-- What holds of what may be there, where it is made of what may be there.
use Rattle.std.specs.Prelude.{Bool, true, false, Option, Some, None, option_map, if◌then◌else◌}
use Rattle.std.proofs.Common.{◌≡◌, refl, sym, subst}
use denote.Enum.Bare.{same_true}
use Rattle.es_grammar.specs.contracts.rows.NodeKind.{the_type}
use Rattle.es_grammar.specs.declared.rows.NodeKind.{NodeKind}
use Rattle.es_lowering.specs.Value.{given}
use Rattle.es_lowering.specs.Lowering.{same_label}

abbrev pub Opt : {A : Type 0} → (A → Type 0) → Option A → Type 0
Opt P (Some a) = P a
Opt P None = Unit {0}

pub given_any : {A B : Type 0} (Q : B → Type 0) (o : Option A) (f : A → Option B) → ((a : A) → Opt Q (f a))
    → Opt Q (given o f)
given_any Q (Some a) f next = next a
given_any Q None f next = tt

pub map_fine : {A B : Type 0} (P : A → Type 0) (Q : B → Type 0) (o : Option A) (f : A → B) → Opt P o
    → ((a : A) → P a → Q (f a)) → Opt Q (option_map f o)
map_fine P Q (Some a) f here next = next a here
map_fine P Q None f here next = tt

pub map_any : {A B : Type 0} (Q : B → Type 0) (o : Option A) (f : A → B) → ((a : A) → Q (f a)) → Opt Q (option_map f o)
map_any Q (Some a) f next = next a
map_any Q None f next = tt

pub if_any : {A : Type 0} (Q : A → Type 0) (b : Bool) (o e : Option A) → Opt Q o → Opt Q e → Opt Q (if b then o else e)
if_any Q true o e one other = one
if_any Q false o e one other = other

-- a line of the table: what holds at an alternative, and at the others
pub if_at : {A : Type 0} (P : NodeKind → A → Type 0) (label m : NodeKind) (o e : Option A) → Opt (P m) o
    → Opt (P label) e
    → Opt (P label) (if same_label label m then o else e)
if_at P label m o e one other = go (same_label label m) refl
  where
    go : (b : Bool) → same_label label m ≡ b → Opt (P label) (if b then o else e)
    go true e1 =
        let Q : NodeKind → Type 0 = λ k. Opt (P k) o in subst Q (sym (same_true the_type tt label m e1)) one
    go false e1 = other

-- one of some alternatives: what holds of each of them
pub if_one : (P : NodeKind → Type 0) (label m : NodeKind) (b : Bool) → P m → (b ≡ true → P label)
    → (if same_label label m then true else b) ≡ true → P label
if_one P label m b one other e = go (same_label label m) refl e
  where
    go : (a : Bool) → same_label label m ≡ a → (if a then true else b) ≡ true → P label
    go true e1 e2 = subst P (sym (same_true the_type tt label m e1)) one
    go false e1 e2 = other e2

-- none of them: nothing there
pub if_none : {A : Type 0} (a b : Bool) (o e : Option A) → (b ≡ false → e ≡ None) → (if a then true else b) ≡ false
    → (if a then o else e) ≡ None
if_none true b o e next h = let bad : ⊥ = cc in absurd bad
if_none false b o e next h = next h
