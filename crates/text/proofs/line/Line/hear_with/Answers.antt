use Rattle.std.proofs.Common.{◌≡◌, length, ap, ◌∙◌, rules}
use Rattle.text.specs.Walks.{heard}
use Rattle.text.specs.Line.{held}
use Rattle.text.proofs.LineLaws.{held_none, heard-added}
use Rattle.text.proofs.line.Line.hear_with.Goals as goal

pub returns-then-self-eq0 : goal.returns-then-self-eq0
returns-then-self-eq0 c = c.hear.ensures ∙ ap heard (held_none _ _ c.if-self-eq0.true)

pub returns : goal.returns
returns c = let n : length c.args.self.text ≡ 33 = search rules in
    c.hear-2.ensures ∙ ap (λ x. heard (held x)) c.add.ensures ∙ heard-added _ _ n
