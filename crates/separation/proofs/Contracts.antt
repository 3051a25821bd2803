-- What `Promised` (Calls) says of a call is what the contract of its entry says, for all that went in and came out: the contracts are those that the
-- check proves of the functions.
-- Assumes nothing.
use contract.Lifetimes.{Lfts}
use denote.Triple.Clauses.{AtExit}
use borrow.Fn.Kinds.{Dens, res_t, ended_of}
use Rattle.params.specs.Lent.{lent_of}
use Rattle.token.specs.Returned.{gets, numbers_of}
use Rattle.token.proofs.uaf_command.Kinds as command-kinds
use Rattle.token.proofs.uaf_command.Reads as command-reads
use Rattle.by_value.proofs.run.Kinds as run-kinds
use Rattle.by_value.proofs.run.Reads as run-reads
use Rattle.token.proofs.withdrawals.uaf_withdraw.Kinds as withdraw-kinds
use Rattle.token.proofs.withdrawals.uaf_withdraw.Reads as withdraw-reads
use Rattle.by_value.proofs.withdraw.withdraw.Kinds as taking-kinds
use Rattle.by_value.proofs.withdraw.withdraw.Reads as taking-reads
use Rattle.key_table.proofs.forms.load.Kinds as load-kinds
use Rattle.key_table.proofs.forms.load.Reads as load-reads
use Rattle.key_table.proofs.forms.store.Kinds as store-kinds
use Rattle.key_table.proofs.forms.store.Reads as store-reads
use Rattle.token.specs.Written.{wrote}
use Rattle.separation.specs.Calls.{Promised, as_stored, by_value, command, run, withdrawing, taking, load, store}

module _ (κs : Lfts 12) (a : Dens κs command-kinds.ps) (r : (res_t command-kinds.r κs).Denot) (s : AtExit (ended_of 12 command-kinds.ps command-kinds.r) κs) where
  pub command_promises : command-reads.Learnt κs a r s
      → let (s₀, (aaid, (version, (signing, (keys, (metadata, (verdict, (display, (key_id, (public_key, (nonce, (table, (out, (table_out, (answer, (n, (m, end))))))))))))))))) = a in
      let (_, (_, (_, (_, (_, (_, (_, (_, (_, (_, (_, (_, (out', (table_out', (answer', (n', (m', end'))))))))))))))))) = s in
      Promised (as_stored table.now)
      (command
      (record {
        command = s₀.now;
        lent =
            lent_of aaid.now (numbers_of version signing keys verdict display) metadata.now key_id.now public_key.now nonce.now;
        before = gets 0 answer.now n.now m.now out.now table_out.now;
        after = gets r answer'.now n'.now m'.now out'.now table_out'.now;
      }))
  command_promises p = p

module _ (κs : Lfts 4) (a : Dens κs run-kinds.ps) (r : (res_t run-kinds.r κs).Denot) (s : AtExit (ended_of 4 run-kinds.ps run-kinds.r) κs) where
  pub run_promises : run-reads.Learnt κs a r s
      → let (s₀, (lent, (t, (out, end)))) = a in
      let (_, (_, (_, (out', end')))) = s in
      Promised (by_value t)
      (run
      (record {
        command = s₀.now;
        lent = lent.now;
        before = out.now;
        after = out'.now;
        ran = r;
      }))
  run_promises p = p

module _ (κs : Lfts 5) (a : Dens κs withdraw-kinds.ps) (r : (res_t withdraw-kinds.r κs).Denot) (s : AtExit (ended_of 5 withdraw-kinds.ps withdraw-kinds.r) κs) where
  pub withdrawing_promises : withdraw-reads.Learnt κs a r s
      → let (mixed, (key_id, (table, (out, (n, end))))) = a in
      let (_, (_, (_, (out', (n', end'))))) = s in
      Promised (as_stored table.now)
      (withdrawing (record { mixed = mixed.now; key_id = key_id.now; before = wrote 0 n.now out.now; after = wrote r n'.now out'.now }))
  withdrawing_promises p = p

module _ (κs : Lfts 2) (a : Dens κs taking-kinds.ps) (r : (res_t taking-kinds.r κs).Denot) (s : AtExit (ended_of 2 taking-kinds.ps taking-kinds.r) κs) where
  pub taking_promises : taking-reads.Learnt κs a r s
      → let (mixed, (key_id, (t, end))) = a in Promised (by_value t) (taking (record { mixed = mixed.now; key_id = key_id.now; withdrew = r }))
  taking_promises p = p

module _ (κs : Lfts 1) (a : Dens κs load-kinds.ps) (r : (res_t load-kinds.r κs).Denot) (s : AtExit (ended_of 1 load-kinds.ps load-kinds.r) κs) where
  pub load_promises : load-reads.Learnt κs a r s → Promised (as_stored a.0.now) (load r)
  load_promises p = p

module _ (κs : Lfts 1) (a : Dens κs store-kinds.ps) (r : (res_t store-kinds.r κs).Denot) (s : AtExit (ended_of 1 store-kinds.ps store-kinds.r) κs) where
  pub store_promises : store-reads.Learnt κs a r s
      → Promised (by_value a.0) (store (record { before = a.1.0.now; after = s.1.0.now; written = r }))
  store_promises p = p
