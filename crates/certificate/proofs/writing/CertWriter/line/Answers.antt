use Rattle.certificate.proofs.LineTexts.{read_text}
use Rattle.certificate.proofs.writing.CertWriter.line.Goals as goal

pub returns-clause-is_read : goal.returns-clause-is_read
returns-clause-is_read g c = read_text c.args.line.now (c.in_ok-push_line.ensures.fit c.requires.word)
