-- A call that is drafted with what it answers, and then takes place.
use Rattle.std.specs.Prelude.{◌≡◌, Option, Some, None, Result, Ok, Err, IfOk}
use Rattle.std.specs.declared.alloc.AllocError.{AllocError}
use Rattle.sys_traits.specs.declared.error.SysErrorKind.{SysErrorKind}
use Rattle.sys_traits.specs.declared.error.SysErrorKind.TheVariants.{NotFound, Failed, OutOfMemory}
use Rattle.sys_traits.specs.declared.error.SysError.{SysError}
use Rattle.sys_traits.specs.declared.call.SysCall.{SysCall}
use Rattle.sys_traits.specs.State.{refusal_of}
use Rattle.sys_traits.specs.Memory.{Memory, Answered, logged, message_of}

-- the error of a refusal, which isn't `OutOfMemory`
abbrev pub IsErrorOf : Option SysErrorKind → Option SysError → Type 0
IsErrorOf None error = error ≡ None
IsErrorOf (Some NotFound) error = error ≡ Some (record { kind = NotFound; message = message_of NotFound })
IsErrorOf (Some Failed) error = error ≡ Some (record { kind = Failed; message = message_of Failed })
IsErrorOf (Some OutOfMemory) error = ⊥

-- the draft is of this call, and what is to be answered is so
abbrev pub Drafts : {V : Type 0} → Result (SysCall × V) AllocError → SysCall → (V → Type 0) → Type 0
Drafts (Ok draft) call P = (draft.0 ≡ call) × P draft.1
Drafts (Err _) call P = Unit {0}

-- the draft took place, unless there was none or memory ran out
abbrev pub Ran : {V : Type 0} → Result (SysCall × V) AllocError → Result V SysError → Memory → Memory → Type 0
Ran (Ok draft) result old new =
    Answered draft.0 (logged old draft.0) (refusal_of result) old new × IfOk result (λ v. v ≡ draft.1)
Ran (Err _) result old new = (refusal_of result ≡ Some OutOfMemory) × (new ≡ old)
