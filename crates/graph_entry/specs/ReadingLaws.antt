-- A source is read as one thing at most: a law that analysers owe.
use Rattle.std.specs.Prelude.{List, Option, Ok, Err}
use Rattle.std.proofs.Common.{◌∙◌, sym, ap}
use Rattle.base.specs.declared.range.Range.{Range}
use Rattle.es_site.specs.declared.site.Site.{Site}
use Rattle.parse_diagnostic.specs.declared.kind.SyntaxErrorKind.{SyntaxErrorKind}
use Rattle.source_reading.proofs.Theorems.{one_sites, one_fault_of, sites_or_fault}
use Rattle.graph_entry.specs.Reading.{IsFunction, diagnosis_at, ReadsSource, with_sites, no_program}

pub reads_once : IsFunction ReadsSource
reads_once s media text a b (with_sites found has is) (with_sites others also so) =
    is ∙ ap (λ (sites : List Site). Ok sites) (one_sites media text found others has also) ∙ sym so
reads_once s media text a b (with_sites found has is) (no_program kind range faulty so) =
    absurd (sites_or_fault media text found kind range has faulty)
reads_once s media text a b (no_program kind range faulty is) (with_sites others also so) =
    absurd (sites_or_fault media text others kind range also faulty)
reads_once s media text a b (no_program k r faulty is) (no_program l q also so) =
    let same = one_fault_of media text k l r q faulty also in
    is ∙ ap (λ (kind : SyntaxErrorKind). Err (diagnosis_at s kind r)) same.0
    ∙ ap (λ (range : Option Range). Err (diagnosis_at s l range)) same.1 ∙ sym so
