-- `text::put_left` meets its contract. Assumes nothing.
use Rattle.text.proofs.Columns.{put_to_left}
use Rattle.text.proofs.put_left.Goals as goal

pub returns : goal.returns
returns c =
    put_to_left c.args.width c.missing.result c.missing.ensures c.put_bytes-end.ensures c.put_blanks.ensures
