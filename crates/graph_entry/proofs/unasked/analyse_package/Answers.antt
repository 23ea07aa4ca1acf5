use Rattle.std.proofs.Common.{refl, ap, Err}
use Rattle.graph_entry.specs.Specifier.{text_of}
use Rattle.graph_entry.specs.Analysed.{with_package, no_package}
use Rattle.graph_entry.proofs.unasked.analyse_package.Goals as goal

-- the package that was read
pub returns-in-Ok : goal.returns-in-Ok
unfolding text_of
returns-in-Ok c = with_package c.in-Ok.package c.in-Ok.ensures.read refl

-- a refusal says that none is named
pub returns-in-Err-NotAReference : goal.returns-in-Err-NotAReference
unfolding text_of
returns-in-Err-NotAReference c =
    no_package (c.in-Err-NotAReference.ensures.refused (ap Err c.in-Err-NotAReference.field-0-is)) refl
