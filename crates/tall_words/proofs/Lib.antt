mod Rules
mod Numbers
mod Finding
mod Tables
