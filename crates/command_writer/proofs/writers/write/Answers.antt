-- The length tells the refusals, and else the command is written.
use Rattle.std.proofs.lemmas.Result.{err_from_is_err_and}
use Rattle.command_writer.proofs.WriterLaws.{count_refuses, count_room, count_writes}
use Rattle.command_writer.proofs.writers.write.Goals as goal

pub returns-in_err-check_len : goal.returns-in_err-check_len
returns-in_err-check_len g c =
    let p = err_from_is_err_and c.from_residual.result c.from_residual.ensures.1 in
    rw (p.1, p.2) (count_refuses c.len-len.ensures _ c.in_err-check_len.ensures)

pub put-requires : goal.put-requires
put-requires g c = count_room c.len-len.ensures c.in_ok-check_len.ensures

pub returns : goal.returns
returns g c = count_writes c.len-len.ensures c.in_ok-check_len.ensures c.put.ensures
