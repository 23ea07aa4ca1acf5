-- What an error says to a person.
use Rattle.std.specs.Prelude.{ℕ, List, codes}
use Rattle.sys_traits.specs.declared.error.SysErrorKind.TheVariants.{NotFound, Failed, OutOfMemory}
use Rattle.sys_traits.specs.declared.error.SysErrorKind.{SysErrorKind}
use Rattle.sys_traits.specs.declared.error.SysError.{SysError}

abbrev pub shown : SysErrorKind → List ℕ → List ℕ
shown NotFound message = message
shown Failed message = message
shown OutOfMemory message = codes "out of memory"

-- its message, and `out of memory` where it is that
abbrev pub shown_error : SysError → List ℕ
shown_error e = shown e.kind e.message
