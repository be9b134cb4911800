use Rattle.std.proofs.Common.{◌≡◌, length, arith, rules}
use Rattle.text.proofs.LineLaws.{open-before, open-last}
use Rattle.text.proofs.line.Line.is_open.Goals as goal

pub returns-in-Some : goal.returns-in-Some
returns-in-Some c = open-last _ _ _ c.in-Some.ensures.value

pub returns-in-None : goal.returns-in-None
returns-in-None c = let n : length c.args.self.text ≡ 33 = search rules in let k = c.in-None.ensures.item in
    open-before _ _ n (omega arith)
