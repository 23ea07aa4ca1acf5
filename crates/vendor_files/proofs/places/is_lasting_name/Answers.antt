-- The name doesn't end as those of temporary files do.
use Rattle.std.proofs.Common.{◌∙◌, sym, ap, not}
use Rattle.std.specs.Option.{option_copied}
use Rattle.vendor_files.specs.Places.{is_lasting_name}
use Rattle.vendor_files.proofs.places.is_lasting_name.Goals as goal

pub returns-in-Some : goal.returns-in-Some
returns-in-Some c = ap not c.ends.ensures ∙ sym (ap (λ o. is_lasting_name (option_copied o)) c.in-Some.is)
