-- What holds of a part, where it is there.
use Rattle.std.specs.Prelude.{Option, Some, None, option_map, IfSome}
use Rattle.std.proofs.Common.{◌≡◌, sym, subst}
use Rattle.es_lowering.specs.Value.{given}
use Rattle.dts_draft.specs.Written.{IfThere}

pub one : {A : Type 0} (P : A → Type 0) {a : A} → P a → IfThere P (Some a)
one P p = record { is = p }

pub none : {A : Type 0} (P : A → Type 0) → IfThere P None
none P = record { is = tt }

pub same : {A : Type 0} (P : A → Type 0) (o p : Option A) → o ≡ p → IfThere P p → IfThere P o
same P o p e h = subst (λ (o : Option _). IfThere P o) (sym e) h

pub mapped : {A B : Type 0} (P : A → Type 0) (Q : B → Type 0) (f : A → B) (o : Option A) → ((a : A) → P a → Q (f a))
    → IfThere P o → IfThere Q (option_map f o)
mapped P Q f None each h = none Q
mapped P Q f (Some a) each h = one Q (each a h.is)

-- of what is made of any part
pub made : {A B : Type 0} (Q : B → Type 0) (f : A → B) (o : Option A) → ((a : A) → Q (f a)) → IfThere Q (option_map f o)
made Q f None each = none Q
made Q f (Some a) each = one Q (each a)

pub given_there : {A B : Type 0} (P : A → Type 0) (Q : B → Type 0) (o : Option A) (f : A → Option B)
    → ((a : A) → P a → IfThere Q (f a)) → IfThere P o → IfThere Q (given o f)
given_there P Q None f each h = none Q
given_there P Q (Some a) f each h = each a h.is

pub given_any : {A B : Type 0} (Q : B → Type 0) (o : Option A) (f : A → Option B) → ((a : A) → IfThere Q (f a))
    → IfThere Q (given o f)
given_any Q None f each = none Q
given_any Q (Some a) f each = each a

-- what holds, and what follows from it
pub lifted : {A : Type 0} {P Q : A → Type 0} {o : Option A} → ((a : A) → P a → Q a) → IfThere P o → IfThere Q o
lifted {A = A} {P = P} {Q = Q} {o = None} each h = none Q
lifted {A = A} {P = P} {Q = Q} {o = Some a} each h = one Q (each a h.is)
