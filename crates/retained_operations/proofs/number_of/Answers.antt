use Rattle.retained_operations.proofs.Laws.{number_early, number_74, number_73, number_late, number_last}
use Rattle.retained_operations.proofs.number_of.Goals as goal

pub returns-then-a-ne0 : goal.returns-then-a-ne0
returns-then-a-ne0 c = let a = c.args in number_early a.a a.count a.number c.if-a-ne0.true

pub returns-then-count-ne16 : goal.returns-then-count-ne16
returns-then-count-ne16 c = let a = c.args in number_74 a.a a.count a.number c.if-a-ne0.false c.if-count-ne16.true

pub returns-then-a : goal.returns-then-a
returns-then-a c = let a = c.args in number_73 a.a a.count a.number
    c.if-a-ne0.false c.if-count-ne16.false c.if-a.true

pub returns-then-a-ne0-2 : goal.returns-then-a-ne0-2
returns-then-a-ne0-2 c = let a = c.args in number_late a.a a.count a.number
    c.if-a-ne0.false c.if-count-ne16.false c.if-a.false
    c.if-a-ne0-2.true

pub returns : goal.returns
returns c = let a = c.args in number_last a.a a.count a.number
    c.if-a-ne0.false c.if-count-ne16.false c.if-a.false
    c.if-a-ne0-2.false
