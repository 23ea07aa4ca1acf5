use Rattle.std.proofs.Common.{◌∙◌, refl, ap, subst, Ok, Err}
use Rattle.parse_diagnostic.specs.Diagnosis.{told}
use Rattle.graph_entry.specs.declared.analyzer.AnalyzeFault.{AnalyzeFault}
use Rattle.graph_entry.specs.declared.entry.JsModule.{JsModule}
use Rattle.graph_entry.specs.declared.entry.Module.TheVariants.{Js}
use Rattle.graph_entry.specs.declared.entry.Entry.TheVariants as entry
use Rattle.graph_entry.specs.Specifier.{text_of}
use Rattle.graph_entry.specs.Reading.{IsAnalysis}
use Rattle.graph_entry.proofs.analysis.analyse_text.Goals as goal

-- the module of the sites that were read
pub returns-in-Ok : goal.returns-in-Ok
returns-in-Ok g c = record {
  sites = Ok c.in-Ok.info.sites;
  read = c.in-Ok.ensures.analysed;
  is = ap (λ (m : JsModule). entry.Module (Js m)) c.in_ok-module-in-Ok.ensures;
}

-- what is wrong with the source
pub returns-in-Err-Parse : goal.returns-in-Err-Parse
returns-in-Err-Parse g c =
    let reads = g.M.ModuleAnalyzer.reads c.args.analyzer.now in
    record {
      sites = Err (told c.in-Err-Parse.diagnostic);
      read = subst
          (λ (e : AnalyzeFault).
          IsAnalysis (reads (text_of c.args.source.specifier.now) c.args.source.media_type c.args.text) (Err e))
          c.in-Err-Parse.field-0-is c.in-Err-Parse.ensures.analysed;
      is = c.unparsed.ensures ∙ rw c.in-Err-Parse.field-0-is refl;
    }
