-- What is told of declarations.
use Rattle.std.proofs.Common.{◌≡◌, ◌∙◌, refl, ℕ, Bool, ◌&&◌, nat_le, List, length, map}
use Rattle.dts_rules.specs.declared.found.Found.{Found}
use Rattle.graph_c.specs.declared.declarations.SourceDiagnostic.{SourceDiagnostic}
use Rattle.graph_c.specs.declared.finding.Finding.{Finding}
use Rattle.graph_c.specs.Declarations.{diagnostics_in, diagnostic_record, declared_text, declarations_fit, TellsDeclarations}
use Rattle.graph_c.specs.Told.{fault_of, place_of, status_of, after}

-- from the records and the text
pub tells_declared : (finding : Finding) (found : List Found) (records diagnostics new_diagnostics : List SourceDiagnostic)
    (text room new_room : List ℕ) (count bytes fault place status : ℕ) (fit : Bool)
    → found ≡ diagnostics_in finding → records ≡ map diagnostic_record found → text ≡ declared_text finding
    → count ≡ length found → bytes ≡ length text
    → fit ≡ (nat_le count (length diagnostics) && nat_le bytes (length room))
    → fault ≡ fault_of finding → place ≡ place_of finding → status ≡ status_of fit finding
    → new_diagnostics ≡ after fit records diagnostics → new_room ≡ after fit text room
    → TellsDeclarations finding diagnostics new_diagnostics room new_room
    (record { diagnostics = count; text_bytes = bytes; fault = fault; place = place }) status
tells_declared finding found records diagnostics new_diagnostics text room new_room count bytes fault place status fit
    found_is records_are text_is counted filled fit_is fault_is place_is status_is new_diagnostics_are new_room_is =
    let whole : fit ≡ declarations_fit finding diagnostics room = fit_is ∙ rw (counted, filled, found_is, text_is) refl in
    record {
      counts = rw (counted, filled, fault_is, place_is, found_is, text_is) refl;
      records = new_diagnostics_are ∙ rw (whole, records_are, found_is) refl;
      text = new_room_is ∙ rw (whole, text_is) refl;
      ends = status_is ∙ rw whole refl;
    }
