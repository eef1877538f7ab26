-- The confirmed write: document 01's 'The runs', three tries. Definitions only.
use Rattle.std.specs.Prelude.{ℕ, zero, suc, Ok, Err}
use Rattle.motor_core.specs.AndThen.{and_then}
use Rattle.time.specs.Time.{millis}
use Rattle.time.specs.declared.Duration.{Duration}
use Rattle.registers.specs.Value.{bits_of}
use Rattle.registers.specs.declared.RegisterValue.{RegisterValue}
use Rattle.state_cache.specs.declared.Entry.{Entry}
use Rattle.run_want.specs.Want.{send_outcome}
use Rattle.run_want.specs.declared.Answer.{Answer}
use Rattle.run_want.specs.declared.Failure.{Failure}
use Rattle.run_want.specs.Step.{Stepped, goes, ends}
use Rattle.std.specs.declared.ops.ControlFlow.TheVariants.{Continue, Break}
use Rattle.run_want.specs.declared.Want.{Want}
use Rattle.run_want.specs.declared.Want.TheVariants.{Send, Sleep}
use Rattle.run_want.specs.declared.message.Message.{Message}
use Rattle.run_want.specs.declared.message.Message.TheVariants.{WriteRegister}
use Rattle.run_write.specs.Ack.{ack_want, ack_step}
use Rattle.run_write.specs.declared.ack.AckWait.TheVariants.{Opening}
use Rattle.run_write.specs.declared.ack.AckWait.{AckWait}
use Rattle.run_write.specs.declared.Write.{Write}
use Rattle.run_write.specs.declared.Write.TheVariants.{Sending, Waiting, Gap}

abbrev pub retry_gap : Duration
retry_gap = millis 20

-- two more tries after the first
abbrev pub first_try : Write
first_try = Sending 2

abbrev pub write_want : ℕ → RegisterValue → Write → Want Message
write_want rid value (Sending tries_left) = Send (WriteRegister rid (bits_of value))
write_want rid value (Waiting tries_left ack) = ack_want ack
write_want rid value (Gap tries_left) = Sleep retry_gap

-- a mismatch or a timeout is tried again, unless this try was the last
abbrev pub again : ℕ → Failure → Stepped Write (Unit {0})
again zero failure = Err failure
again (suc tries_left) failure = goes (Gap tries_left)

abbrev pub write_waited : ℕ → Stepped AckWait (Unit {0}) → Stepped Write (Unit {0})
write_waited tries_left (Ok (Continue ack)) = goes (Waiting tries_left ack)
write_waited tries_left (Ok (Break acked)) = ends tt
write_waited tries_left (Err failure) = again tries_left failure

-- `write_register_u32`, `write_register_f32`, looking at the register's ack. A failed send is not tried again
abbrev pub write_step : RegisterValue → Entry → Write → Answer → Stepped Write (Unit {0})
write_step value entry (Sending tries_left) answer = and_then (send_outcome answer) (λ sent. goes (Waiting tries_left Opening))
write_step value entry (Waiting tries_left ack) answer = write_waited tries_left (ack_step value entry ack answer)
write_step value entry (Gap tries_left) answer = goes (Sending tries_left)
