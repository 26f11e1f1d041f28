use Rattle.std.proofs.Common.{rules}
use Rattle.dispatch_room_lists.proofs.TerminalTextLemmas.{reads_all, reads_more}
use Rattle.dispatch_room_lists.proofs.change_texts.listed_in.Goals as goal

pub loop-line-preserved : goal.loop-line-preserved
loop-line-preserved c = record {
  is_text = search rules;
  reads = reads_more c.args.lines.now c.loop-line.rest.now c.in-Some.line c.in-Some.below c.loop-line.listed.items _
      c.in-Some.ensures.cases c.loop-line.invariant.reads c.in_ok-read_line.ensures;
}

pub returns : goal.returns
returns c =
    reads_all c.args.lines.now c.loop-line.rest.now c.loop-line.listed.items c.in_default.ensures.cases
    c.loop-line.invariant.reads
