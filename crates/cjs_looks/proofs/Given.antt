-- What holds of what is made of parts that may not be there.
use Rattle.std.specs.Prelude.{Option, Some, None, option_map}
use Rattle.std.proofs.Common.{◌≡◌}
use Rattle.es_lowering.specs.Value.{given}
use Rattle.es_ast.specs.declared.ast.Expr.{Expr}
use Rattle.cjs_looks.specs.Odd.{All}
use Rattle.cjs_looks.specs.Seen.{Tells}

pub all_given : {A : Type 0} (P : Expr → Type 0) (o : Option A) {make : A → Option Expr} → ((a : A) → All P (make a))
    → All P (given o make)
all_given P None each = record { all = tt }
all_given P (Some a) each = each a

pub all_map : {A : Type 0} (P : Expr → Type 0) (o : Option A) (make : A → Expr) → ((a : A) → P (make a))
    → All P (option_map make o)
all_map P None make each = record { all = tt }
all_map P (Some a) make each = record { all = each a }

pub all_one : (P : Expr → Type 0) (e : Expr) → P e → All P (Some e)
all_one P e is = record { all = is }

pub tells_given : {A B C : Type 0} (f : B → C) (c : C) (o : Option A) {make : A → Option B}
    → ((a : A) → Tells f (make a) c) → Tells f (given o make) c
tells_given f c None each = record { told = tt }
tells_given f c (Some a) each = each a

pub tells_map : {A B C : Type 0} (f : B → C) (c : C) (o : Option A) (make : A → B) → ((a : A) → f (make a) ≡ c)
    → Tells f (option_map make o) c
tells_map f c None make each = record { told = tt }
tells_map f c (Some a) make each = record { told = each a }

pub tells_one : {B C : Type 0} (f : B → C) (c : C) (b : B) → f b ≡ c → Tells f (Some b) c
tells_one f c b is = record { told = is }
