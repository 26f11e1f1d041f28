use Rattle.dispatch_room_board.proofs.boards.board_of.Goals as goal

pub returns : goal.returns
returns c =
    let is = c.new-renderer.ensures in
    rw c.board.ensures
    (c.in_ok-put_all.ensures c.args.heard.now c.args.colour
    (record { rest = is.rest; page = is.page.0; colour = is.page.1; reached = is.reached }))
