use Rattle.run_send.proofs.Sends.{sound_of}
use Rattle.run_send.proofs.command.send_files.Goals as goal

pub returns-in-Ok-transmit-clause-sound : goal.returns-in-Ok-transmit-clause-sound
returns-in-Ok-transmit-clause-sound g c = λ told. sound_of _ c.args.sending.now _ _ (c.in-Ok.ensures.decides told) c.in-Ok.ensures.sound

pub returns-in-Err-Failed-clause-sound : goal.returns-in-Err-Failed-clause-sound
returns-in-Err-Failed-clause-sound g c = λ told. sound_of _ c.args.sending.now _ _ (c.in-Ok.ensures.decides told) c.in-Ok.ensures.sound

pub returns-clause-sound : goal.returns-clause-sound
returns-clause-sound g c = λ told. sound_of _ c.args.sending.now _ _ (c.in-Ok.ensures.decides told) c.in-Ok.ensures.sound
