-- `calls::referee::Referee::act` meets its contract.
use mathlib.Core.Path.{◌∙◌, sym}
use Rattle.numbers.specs.Sizes.{frame_bytes, pages, page_words}
use Rattle.numbers.specs.Tests.{◌or◌, isnt}
use Rattle.calls.proofs.FrontLaws.{act-1, act-2, act-on}
use Rattle.calls.proofs.referee.Referee.act.Goals as goal

pub returns-then-frame-mem : goal.returns-then-frame-mem
unfolding ◌or◌ isnt frame_bytes pages page_words
returns-then-frame-mem c = rw c.refused.ensures (act-1 _ _ _ c.if-frame-mem.true)

pub returns-then-not-wf : goal.returns-then-not-wf
unfolding ◌or◌ isnt frame_bytes pages page_words
returns-then-not-wf c = rw c.refused-then-not-wf.ensures (act-2 _ _ _ c.if-frame-mem.false (sym c.wf.ensures ∙ c.if-not-wf.true))

pub returns : goal.returns
unfolding ◌or◌ isnt frame_bytes pages page_words
returns c = c.take.ensures ∙ rw c.decode.ensures (act-on _ _ _ c.if-frame-mem.false (sym c.wf.ensures ∙ c.if-not-wf.false))
