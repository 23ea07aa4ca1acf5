-- Told states through several calls, and facts by the kind of a refusal.
use Rattle.std.proofs.Common.{◌≡◌, ◌≤◌, ◌<◌, ℕ, Option, None, Some, ◌⊎◌, inl, inr, subst, sym, refl, arith}
use Rattle.sys_traits.specs.declared.error.SysErrorKind.{SysErrorKind}
use Rattle.sys_traits.specs.declared.error.SysErrorKind.TheVariants.{NotFound, Failed, OutOfMemory}
use Rattle.sys_traits.specs.State.{Told, WhereTold, CountsFault}
use Rattle.deno_path_util.specs.Course.{UnlessWant, IsFault}

pub told_map : (R Q : Told → Told → Type 0) → ((a b : Told) → R a b → Q a b) → (x y : Option Told) → WhereTold R x y
    → WhereTold Q x y
told_map R Q f None None h = tt
told_map R Q f (Some a) (Some b) h = f a b h
told_map R Q f None (Some b) h = absurd h
told_map R Q f (Some a) None h = absurd h

-- two calls, one after the other
pub record Then (R Q : Told → Told → Type 0) (a c : Told) : Type 0 where
  pub between : Told
  pub first : R a between
  pub second : Q between c

pub told_then : (R Q : Told → Told → Type 0) (x y z : Option Told) → WhereTold R x y → WhereTold Q y z
    → WhereTold (Then R Q) x z
told_then R Q None None None h k = tt
told_then R Q (Some a) (Some b) (Some c) h k = record { between = b; first = h; second = k }
told_then R Q None None (Some c) h k = absurd k
told_then R Q None (Some b) z h k = absurd h
told_then R Q (Some a) None z h k = absurd h
told_then R Q (Some a) (Some b) None h k = absurd k

pub told_two : (R Q P : Told → Told → Type 0) → ((a b c : Told) → R a b → Q b c → P a c)
    → (x y z : Option Told) → WhereTold R x y → WhereTold Q y z → WhereTold P x z
told_two R Q P f x y z h k =
    told_map (Then R Q) P (λ a c t. f a t.between c t.first t.second) x z (told_then R Q x y z h k)

pub told_three : (R Q V P : Told → Told → Type 0) → ((a b c d : Told) → R a b → Q b c → V c d → P a d)
    → (x y z w : Option Told) → WhereTold R x y → WhereTold Q y z → WhereTold V z w → WhereTold P x w
told_three R Q V P f x y z w h k l =
    told_two (Then R Q) V P (λ a c d t v. f a t.between c d t.first t.second v) x z w (told_then R Q x y z h k) l

pub told_four : (R Q V U P : Told → Told → Type 0) → ((a b c d e : Told) → R a b → Q b c → V c d → U d e → P a e)
    → (x y z w v : Option Told) → WhereTold R x y → WhereTold Q y z → WhereTold V z w → WhereTold U w v
    → WhereTold P x v
told_four R Q V U P f x y z w v h k l m =
    told_three (Then R Q) V U P (λ a c d e t s u. f a t.between c d e t.first t.second s u) x z w v
    (told_then R Q x y z h k) l m

-- a call that was refused by the system has ended
pub ended_by : (A B : Type 0) (kind : SysErrorKind) → IsFault kind → A → UnlessWant (Some kind) A B
ended_by A B NotFound f h = h
ended_by A B Failed f h = h
ended_by A B OutOfMemory f h = absurd f

-- the count rose, or memory ran out, and then it didn't fall
pub counted_on : (kind : SysErrorKind) (old between new : ℕ) → CountsFault (Some kind) old between → between ≤ new
    → CountsFault (Some kind) old new
counted_on NotFound old between new h l = omega arith
counted_on Failed old between new h l = omega arith
counted_on OutOfMemory old between new h l = omega arith

-- the count never falls
pub falls_never : (kind : SysErrorKind) (old new : ℕ) → CountsFault (Some kind) old new → old ≤ new
falls_never NotFound old new h = omega arith
falls_never Failed old new h = omega arith
falls_never OutOfMemory old new h = h

pub counted_or : (kind answered : SysErrorKind) (old between new : ℕ) → (answered ≡ kind) ⊎ (answered ≡ OutOfMemory)
    → CountsFault (Some kind) old between → between ≤ new → CountsFault (Some answered) old new
counted_or kind answered old between new (inl e) h l =
    subst (λ k. CountsFault (Some k) old new) (sym e) (counted_on kind old between new h l)
counted_or kind answered old between new (inr e) h l =
    subst (λ k. CountsFault (Some k) old new) (sym e) (let h' = falls_never kind old between h in omega arith)

pub counted_after : (kind : SysErrorKind) (old between new : ℕ) → old ≤ between → CountsFault (Some kind) between new
    → CountsFault (Some kind) old new
counted_after NotFound old between new l h = omega arith
counted_after Failed old between new l h = omega arith
counted_after OutOfMemory old between new l h = omega arith

-- any other refusal is the system's
pub fault_unless : (kind : SysErrorKind) → (kind ≡ OutOfMemory → ⊥) → IsFault kind
fault_unless NotFound n = tt
fault_unless Failed n = tt
fault_unless OutOfMemory n = absurd (n refl)

-- the system's refusal raises the count
pub counted_fault : (kind : SysErrorKind) (old new : ℕ) → IsFault kind → CountsFault (Some kind) old new → old < new
counted_fault NotFound old new f h = omega arith
counted_fault Failed old new f h = omega arith
counted_fault OutOfMemory old new f h = absurd f
