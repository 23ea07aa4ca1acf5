use Rattle.std.proofs.Common.{sym, subst, Bool}
use Rattle.graph_entry.specs.Specifier.{text_of}
use Rattle.graph_entry.specs.Reading.{IsAnalysis}
use Rattle.es_forms.specs.Chosen.{is_any}
use Rattle.forms_analyzer.specs.Forms.{ReadsWhere}
use Rattle.forms_analyzer.proofs.analyzer.FormsAnalyzerModuleAnalyzer.analyze.Goals as goal

-- by the choice
pub returns-then-self : goal.returns-then-self
returns-then-self c = record {
  analysed = subst
      (λ (b : Bool). IsAnalysis (ReadsWhere (is_any c.args.self.now.forms) c.args.self.now.forms b
      (text_of c.args.specifier.now) c.args.media_type c.args.text.now)
      c.in_either.result) (sym c.if-self.true) c.in_either.ensures;
}

pub returns : goal.returns
returns c = record {
  analysed = subst
      (λ (b : Bool). IsAnalysis (ReadsWhere (is_any c.args.self.now.forms) c.args.self.now.forms b
      (text_of c.args.specifier.now) c.args.media_type c.args.text.now)
      c.in_own.result) (sym c.if-self.false) c.in_own.ensures;
}
