use Rattle.pass_forms.proofs.write.packets.PacketsPutLayout.put_pass.Goals as goal
use Rattle.pass_forms.{proofs.Common.{◌≡◌, ◌++◌, ℕ, List, Result, Ok, Err, arith, common_steps, FormFault}, specs.Writing.{Puts, v1_bytes}}

puts_four : (a b c d old x y z new : List ℕ) (result : Result (Unit {0}) FormFault) → x ≡ old ++ a → y ≡ x ++ b → z ≡ y ++ c → Puts d z new result →
    Puts (a ++ (b ++ (c ++ d))) old new result
puts_four a b c d old x y z new (Ok _) p q r s = grind (arith, common_steps)
puts_four a b c d old x y z new (Err fault) p q r s = grind (arith, common_steps)

pub returns-clause-bytes : goal.returns-clause-bytes
unfolding v1_bytes
returns-clause-bytes c =
    puts_four _ _ _ _ _ _ _ _ _ _ (rw c.location.ensures at c.in_ok-put_packet.ensures) (rw c.identifier.ensures at c.in_ok-put_packet-2.ensures)
    (rw c.caveats.ensures at c.in_ok-put_caveats.ensures) (rw c.signature.ensures.value at c.put_packet-3.ensures)
