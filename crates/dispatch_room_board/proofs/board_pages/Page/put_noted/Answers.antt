use Rattle.dispatch_room_board.proofs.Notes.{noted_fits}
use Rattle.dispatch_room_board.proofs.board_pages.Page.put_noted.Goals as goal

pub returns-in_err-begin-clause-fits : goal.returns-in_err-begin-clause-fits
returns-in_err-begin-clause-fits c = noted_fits c.args.note.now

pub returns-in_err-extend_from_slice-clause-fits : goal.returns-in_err-extend_from_slice-clause-fits
returns-in_err-extend_from_slice-clause-fits c = noted_fits c.args.note.now

pub returns-in_err-put_visible-clause-fits : goal.returns-in_err-put_visible-clause-fits
returns-in_err-put_visible-clause-fits c = noted_fits c.args.note.now

pub returns-clause-fits : goal.returns-clause-fits
returns-clause-fits c = noted_fits c.args.note.now
