-- What a refusal of a combinator means here. None of the grammar's combinators answers a failure.
use Rattle.monch.specs.declared.core_parsers.error.ParseError.{ParseError}
use Rattle.monch.specs.declared.core_parsers.error.ParseError.TheVariants as parse
use Rattle.package_ref.specs.declared.error.PackageError.{PackageError}
use Rattle.package_ref.specs.declared.error.PackageError.TheVariants.{NotAReference, OutOfMemory}

abbrev pub fault_of : ParseError → PackageError
fault_of parse.Backtrace = NotAReference
fault_of (parse.Failure failure) = NotAReference
fault_of parse.OutOfMemory = OutOfMemory
