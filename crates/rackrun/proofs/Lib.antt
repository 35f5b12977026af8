mod InputText
