use Rattle.pra_gen.proofs.Drawn.{first, second, third, fourth, gives, statement_is}
use Rattle.pra_gen.proofs.statement.Statement.drawn.Goals as goal

pub returns-clause-drawn : goal.returns-clause-drawn
returns-clause-drawn c =
    let x = c.args.draws.now.state in
    let one = first x c.draw.new.self.state c.draw.ensures.state in
    let two = second x c.draw.new.self.state c.draw-target.new.self.state one
    c.draw-target.ensures.state in
    let three = third x c.draw-target.new.self.state c.draw-left.new.self.state two
    c.draw-left.ensures.state in
    let four = fourth x c.draw-left.new.self.state c.draw-right.new.self.state three
    c.draw-right.ensures.state in
    statement_is x c.draw.result c.draw-target.result c.draw-left.result c.draw-right.result
    c.of-form.result
    c.of-form.ensures
    (gives x 1 c.draw.new.self.state c.draw.result one c.draw.ensures.drawn)
    (gives x 2 c.draw-target.new.self.state c.draw-target.result two c.draw-target.ensures.drawn)
    (gives x 3 c.draw-left.new.self.state c.draw-left.result three c.draw-left.ensures.drawn)
    (gives x 4 c.draw-right.new.self.state c.draw-right.result four c.draw-right.ensures.drawn)

pub returns-clause-state : goal.returns-clause-state
returns-clause-state c =
    let x = c.args.draws.now.state in
    let one = first x c.draw.new.self.state c.draw.ensures.state in
    let two = second x c.draw.new.self.state c.draw-target.new.self.state one
    c.draw-target.ensures.state in
    let three = third x c.draw-target.new.self.state c.draw-left.new.self.state two
    c.draw-left.ensures.state in
    fourth x c.draw-left.new.self.state c.draw-right.new.self.state three c.draw-right.ensures.state
